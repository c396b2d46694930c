use Rattle.std.proofs.Common.{◌≡◌, sym, ap, ◌∙◌, subst}
use Rattle.manager.specs.Rules.{Managed, shown, started}
use Rattle.manager.specs.Runs.{history, finally}
use Rattle.manager.specs.Laws.{Laws}
use Rattle.manager.specs.declared.account.Account.{Account}
use Rattle.manager.proofs.Whole.{every_run_keeps_the_laws}
use Rattle.manager.proofs.manager.Manager.figures.Goals as goal

pub returns : goal.returns
returns g c = record {
  value = ap shown c.account.ensures;
  laws = λ number t s cs e.
      let q : c.account.result ≡ (finally (started number t s) cs).account = c.account.ensures ∙ ap (λ (m : Managed). m.account) e in
      subst (λ (a : Account). Laws t (history (started number t s) cs) a) (sym q) (every_run_keeps_the_laws number t s cs);
}
