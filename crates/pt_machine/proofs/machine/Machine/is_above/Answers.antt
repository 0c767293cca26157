use Rattle.std.proofs.Common.{◌≡◌, ◌<◌, Some, ℕ, Bool, true, false, nat_lt}
use Rattle.std.proofs.Common.{refl, sym, ap, ◌∙◌, arith, unwrap_or}
use Rattle.std.proofs.lemmas.Bool.Decides.{nat_tests}
use Rattle.std.specs.Bool.{OnTrue}
use Rattle.pt_model.specs.Clients.{client_priority}
use Rattle.pt_state.specs.Adds.{history_of}
use Rattle.pt_machine.proofs.machine.Machine.is_above.Goals as goal

-- what follows if a number is less
if_less : {P : Type 0} (a b : ℕ) → (a < b → P) → OnTrue (nat_lt a b) P
if_less {P} a b f = go (nat_lt a b) refl
  where
    go : (t : Bool) → nat_lt a b ≡ t → OnTrue t P
    go true s = f (grind (arith, nat_tests))
    go false s = tt

pub returns-in-Some : goal.returns-in-Some
returns-in-Some g c =
    let has : client_priority (history_of c.args.self.now) c.args.c ≡ Some c.in-Some.own =
    rw (← c.self.view_is) (sym c.priority.ensures ∙ c.in-Some.is) in
    let its : unwrap_or (client_priority (history_of c.args.self.now) c.args.c) 0 ≡ c.in-Some.own =
    ap (λ o. unwrap_or o 0) has in
    if_less c.level.result c.level-in-Some.result
    (λ lt. (
      omega (arith, its, lt, c.level.ensures.value, c.level-in-Some.ensures.value),
      omega (arith, its, c.level-in-Some.ensures.value, c.level-in-Some.ensures.greatest),
    ))

pub priority-requires : goal.priority-requires
priority-requires g c = rw c.self.view_is c.requires
