mod Layers
mod Bars
mod Halves
mod Quick
mod Limited
