use Rattle.std.proofs.Common.{◌<◌, nat_eq, sym, subst}
use Rattle.std.proofs.lemmas.Bool.Decides.{Decides-eqb}
use Rattle.pt_engine.proofs.Keys.{found_read, key_within, unplaced}
use Rattle.pt_engine.proofs.pending_lines.PendingLines.find.Goals as goal

pub returns-in_err-index : goal.returns-in_err-index
returns-in_err-index g c =
    let inside = c.self.inside in
    rw (c.from_residual.ensures, ← c.self.view_is, ← c.client.view_is)
    (sym (unplaced nat_eq Decides-eqb inside.lines.items inside.places.entries
    c.self.invariant.0 c.client.inside.0 (sym c.in_err-index.ensures.value)))

pub index-requires : goal.index-requires
index-requires g c =
    let lines = c.self.inside.lines in
    let key = c.client.inside.0 in
    let index = c.in_ok-index.index.now in
    subst (λ n. index < n) (sym lines.ok.0)
    (key_within lines.items index key
    (c.self.invariant.0.own key index (sym c.in_ok-index.ensures.value)))

pub returns : goal.returns
returns g c =
    let inside = c.self.inside in
    let key = c.client.inside.0 in
    let index = c.in_ok-index.index.now in
    rw (← c.self.view_is, ← c.client.view_is)
    (sym (found_read nat_eq Decides-eqb inside.lines.items inside.places.entries
    c.self.invariant.0 index key c.index.result.now
    (c.self.invariant.0.own key index (sym c.in_ok-index.ensures.value)) c.index.ensures))
