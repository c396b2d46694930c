-- Faults and reports through one layer more, and over the parts of two devices.
use Rattle.std.proofs.Common.{◌≡◌, ℕ, Bool, true, false, cond, ◌||◌, eqb, List, [], ◌∷◌, ◌++◌, map, Some, None, Option, sym, refl, ap, ◌∙◌, arith}
use Rattle.std.specs.Option.{option_or}
use Rattle.devices.specs.declared.device.Part.{Part}
use Rattle.std.specs.Option.{option_map}
use Rattle.devices.specs.Meaning.{fault_of, bears, coded, layered}

-- the fault of layered parts is the layered fault
pub fault_layered : (ps : List Part) → fault_of (map layered ps) ≡ option_map layered (fault_of ps)
fault_layered [] = refl
fault_layered (p ∷ ps) =
    elim (eqb p.code 0) as (λ b. cond b (fault_of (map layered ps)) (Some (layered p)) ≡ option_map layered (cond b (fault_of ps) (Some p))) [
      | true ↦ fault_layered ps
      | false ↦ refl
    ]

-- the fault of two lists of parts is the first's, else the second's
pub fault_both : (ps qs : List Part) → fault_of (ps ++ qs) ≡ option_or (fault_of ps) (fault_of qs)
fault_both [] qs = refl
fault_both (p ∷ ps) qs =
    elim (eqb p.code 0) as (λ b. cond b (fault_of (ps ++ qs)) (Some p) ≡ option_or (cond b (fault_of ps) (Some p)) (fault_of qs)) [
      | true ↦ fault_both ps qs
      | false ↦ refl
    ]

-- a layer keeps the numbers
pub bears_layered : (n : ℕ) (ps : List Part) → bears n (map layered ps) ≡ bears n ps
bears_layered n [] = refl
bears_layered n (p ∷ ps) = ap (λ b. eqb p.number n || b) (bears_layered n ps)

-- a number is borne by two lists of parts if it is by either
bears_both : (n : ℕ) (ps qs : List Part) → (bears n ps || bears n qs) ≡ bears n (ps ++ qs)
bears_both n [] qs = refl
bears_both n (p ∷ ps) qs =
    elim (eqb p.number n) as (λ b. ((b || bears n ps) || bears n qs) ≡ (b || bears n (ps ++ qs))) [
      | true ↦ refl
      | false ↦ bears_both n ps qs
    ]

-- and so by both a layer further up
pub bears_pair : (n : ℕ) (ps qs : List Part) {x y : Bool} → x ≡ bears n ps → y ≡ bears n qs → (x || y) ≡ bears n (map layered (ps ++ qs))
bears_pair n ps qs {x} {y} e f =
    ap (λ b. b || y) e ∙ (ap (λ b. bears n ps || b) f ∙ (bears_both n ps qs ∙ sym (bears_layered n (ps ++ qs))))

-- a report reaches layered parts as it does those below
pub coded_layered : (n c : ℕ) (ps : List Part) → map (coded n c) (map layered ps) ≡ map layered (map (coded n c) ps)
coded_layered n c [] = refl
coded_layered n c (p ∷ ps) =
    let here : coded n c (layered p) ≡ layered (coded n c p) = elim (eqb p.number n) as (λ b. cond b (record { number = p.number; code = c; depth = (layered p).depth }) (layered p) ≡ layered (cond b (record { number = p.number; code = c; depth = p.depth }) p)) [ true ↦ refl | false ↦ refl ] in
    ap (λ (q : Part). q ∷ map (coded n c) (map layered ps)) here ∙ ap (λ (qs : List Part). layered (coded n c p) ∷ qs) (coded_layered n c ps)

-- layered parts are sound only if those below are
pub sound_below : (ps : List Part) → fault_of (map layered ps) ≡ None → fault_of ps ≡ None
sound_below ps e = sound (fault_of ps) (sym (fault_layered ps) ∙ e) where
  sound : (o : Option Part) → option_map layered o ≡ None → o ≡ None
  sound None _ = refl
  sound (Some p) h = absurd (grind arith)

-- two lists of parts are sound only if both are
pub sound_both : (ps qs : List Part) → fault_of (ps ++ qs) ≡ None → (fault_of ps ≡ None) × (fault_of qs ≡ None)
sound_both ps qs e = sound (fault_of ps) (fault_of qs) (sym (fault_both ps qs) ∙ e) where
  sound : (o p : Option Part) → option_or o p ≡ None → (o ≡ None) × (p ≡ None)
  sound None p h = (refl, h)
  sound (Some q) p h = absurd (grind arith)
