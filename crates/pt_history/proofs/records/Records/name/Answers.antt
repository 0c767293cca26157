use Rattle.std.proofs.Common.{◌≡◌, ◌+◌, ◌-◌, List, ℕ, take, drop, ◌∙◌}
use Rattle.std.proofs.lemmas.Option.{MatchOption-at_some}
use Rattle.pt_history.proofs.Found.{part-text, part-named}
use Rattle.pt_history.proofs.records.Records.name.Goals as goal

pub unwrap-requires : goal.unwrap-requires
unwrap-requires g c =
    let a = c.args in
    c.new.ensures.valid.1 (part-named c.deref.result.now a.self.now.texts.items a.from a.length
    c.deref.ensures.value c.requires.name)

pub returns : goal.returns
returns g c =
    let a = c.args in
    MatchOption-at_some _
    (λ (t : List ℕ). t ≡ take ((a.from + a.length) - a.from) (drop a.from c.deref.result.now))
    _ c.unwrap.ensures c.new.ensures.value
    ∙ part-text c.deref.result.now a.self.now.texts.items a.from a.length c.deref.ensures.value
