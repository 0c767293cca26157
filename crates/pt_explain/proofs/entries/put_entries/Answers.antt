use Rattle.std.proofs.Common.{◌∙◌, ◌++◌, refl, sym, ap, arith}
use Rattle.pt_legal.specs.Cores.{core_state}
use Rattle.pt_model.proofs.Histories.{place-history_since}
use Rattle.pt_explain.specs.Entries.{entries_from, entry_row, entry_rows}
use Rattle.pt_explain.specs.Rows.{row}
use Rattle.pt_entries.specs.EntryTexts.{placed_entry}
use Rattle.pt_explain.proofs.Pairs.{pair}
use Rattle.pt_explain.proofs.EntryLines.{line_next, line_none, line_end}
use Rattle.pt_explain.proofs.entries.put_entries.Goals as goal
use Rattle.pt_explain.proofs.entries.put_entries.Goals.{in-Some+in_ok-put_entry}
use Rattle.pt_explain.proofs.entries.put_entries.Goals.{in_default}

pub loop-place-init : goal.loop-place-init
loop-place-init g c = record { since = c.requires; text = refl }

pub loop-place-preserved : goal.loop-place-preserved
loop-place-preserved g c =
    let s = g.C.LegalHistory.seen c.args.core.now in
    let at = (core_state s).start.at in
    let place = c.loop-place.place in
    let before = c.loop-place.out.items in
    let own = c.args.own.now in
    let t = entry_row (own.words.now, own.source.now) c.args.from (core_state s) in
    let text = c.args.out.now.items ++ entry_rows t c.args.from (entries_from s c.args.from) in
    let since = c.loop-place.invariant.since in
    let found = c.entry.ensures.since since in
    record {
      since = omega (arith, since);
      text =
          elim c.match-entry.branch [
            | in-Some+in_ok-put_entry w ↦
                line_next t at place s.entries w.in-Some.entry before c.match-entry.out.items text
                since (sym found ∙ w.in-Some.is) c.loop-place.invariant.text
                (ap (λ o. o.items) w.out-is
                ∙ w.in_ok-put_entry.ensures.ok
                ∙ ap (λ r. before ++ row (placed_entry place w.in-Some.entry) r)
                (pair w.reason_at-reason.ensures.words w.reason_at-reason.ensures.source))
            | in_default w ↦
                line_none t at place s.entries c.match-entry.out.items text since
                (sym found ∙ w.in_default.is)
                (ap (λ o. o.items ++ entry_rows t place (entries_from s place)) w.out-is
                ∙ c.loop-place.invariant.text)
          ];
    }

pub returns-clause-ok : goal.returns-clause-ok
returns-clause-ok g c =
    let s = g.C.LegalHistory.seen c.args.core.now in
    let own = c.args.own.now in
    let t = entry_row (own.words.now, own.source.now) c.args.from (core_state s) in
    line_end t (core_state s).start.at c.loop-place.place s.entries c.loop-place.out.items
    (c.args.out.now.items ++ entry_rows t c.args.from (entries_from s c.args.from))
    (omega (arith, c.len-end.ensures.value, place-history_since (core_state s).start s.entries))
    c.loop-place.invariant.text
