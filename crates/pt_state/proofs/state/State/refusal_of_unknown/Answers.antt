use Rattle.std.proofs.Common.{◌≡◌, ℕ, ◌<◌, ◌≤◌, nat_lt, true, false, refl, sym, ◌∙◌, arith}
use Rattle.std.proofs.lemmas.Bool.Decides.{nat_tests}
use Rattle.pt_types.specs.declared.outcome.Refusal.TheVariants.{Dead, Nohello}
use Rattle.pt_history.proofs.Places.{place_of_next}
use Rattle.pt_model.specs.Histories.{History, place}
use Rattle.pt_model.specs.Room.{refusal_of_unknown}
use Rattle.pt_state.specs.Adds.{history_of}
use Rattle.pt_state.proofs.state.State.refusal_of_unknown.Goals as goal

died : (h : History) (c d n : ℕ) → c < n → c ≡ d → n ≡ place h
    → Dead ≡ refusal_of_unknown h d
died h c d n lt same at =
    let t : nat_lt d (place h) ≡ true = grind (arith, nat_tests) in rw t refl

never : (h : History) (c d n : ℕ) → n ≤ c → c ≡ d → n ≡ place h
    → Nohello ≡ refusal_of_unknown h d
never h c d n le same at =
    let t : nat_lt d (place h) ≡ false = grind (arith, nat_tests) in rw t refl

pub returns-then-c-len : goal.returns-then-c-len
returns-then-c-len g c =
    died (history_of c.args.self.now) c.c.inside.0 c.args.c c.len.result c.if-c-len.true c.c.view_is
    (c.len.ensures ∙ sym (place_of_next c.args.self.now.stored))

pub returns-else-c-len : goal.returns-else-c-len
returns-else-c-len g c =
    never (history_of c.args.self.now) c.c.inside.0 c.args.c c.len.result c.if-c-len.false
    c.c.view_is
    (c.len.ensures ∙ sym (place_of_next c.args.self.now.stored))
