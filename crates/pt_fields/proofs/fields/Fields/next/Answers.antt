use Rattle.std.proofs.Common.{◌≡◌, ◌∙◌, ◌+◌, ◌-◌, ◌∷◌, ap, sym, take, drop, length, List, ℕ, arith}
use Rattle.std.proofs.lemmas.Grind.{common_steps}
use Rattle.pt_fields.specs.Fields.{fields, fields_left}
use Rattle.pt_fields.proofs.FieldLemmas.{fields-found, fields-none}
use Rattle.pt_fields.proofs.fields.Fields.next.Goals as goal

to_end : (n : ℕ) (xs : List ℕ) → drop n xs ≡ take (length xs - n) (drop n xs)
to_end n xs = grind (arith, common_steps)

pub returns-in-Some : goal.returns-in-Some
returns-in-Some c =
    let text = c.in_ok-text.text.now in
    sym c.self.view_is
    ∙ ap fields_left c.in_ok-text.was
    ∙ fields-found text c.in-Some.end c.in-Some.ensures
    ∙ ap (λ rest. take c.in-Some.end text ∷ fields rest) (to_end (c.in-Some.end + 1) text)

pub returns-in-None : goal.returns-in-None
returns-in-None c =
    sym c.self.view_is
    ∙ ap fields_left c.in_ok-text.was
    ∙ fields-none c.in_ok-text.text.now c.in-None.ensures
