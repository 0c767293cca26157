use Rattle.std.proofs.Common.{ap, sym, ◌∙◌, is_some}
use Rattle.std.specs.Map.{lookup}
use Rattle.std.specs.Ordering.{nat_cmp}
use Rattle.std.specs.BTreeMap.{is_at}
use Rattle.pt_rwlock.specs.RwlockState.{reads_in_row}
use Rattle.pt_rwlock.proofs.ReaderLemmas.{none_of, readers-kept}
use Rattle.pt_rwlock.proofs.holders.Holders.make_row.Goals as goal

pub invariant_of-self : goal.invariant_of-self
invariant_of-self g c =
    let rows = c.self.inside.reads in
    let none = none_of (lookup (is_at (nat_cmp c.client.inside.0)) rows)
    (ap (λ k. is_some (lookup (is_at (nat_cmp k)) rows)) c.client.view_is
    ∙ ap (λ v. is_some (reads_in_row v c.args.client)) (c.self.view_is
    ∙ c.has_row.ensures.unchanged)
    ∙ sym c.has_row.ensures.found ∙ c.if-has_row.false) in
    readers-kept c.insert.result c.client.inside.0 rows c.insert.new.self none
    c.insert.ensures.rows c.insert.ensures.unchanged
    ∙ c.self.invariant
