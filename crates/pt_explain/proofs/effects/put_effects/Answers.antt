use Rattle.std.proofs.Common.{◌≤◌, ◌-◌, ◌∙◌, ◌++◌, List, ℕ, arith, ap, subst, sym}
use Rattle.pt_legal.specs.Cores.{core_state}
use Rattle.pt_model.proofs.Histories.{place-history_since}
use Rattle.pt_engine.specs.Engines.{as_script}
use Rattle.pt_engine.specs.Scripts.{core_of}
use Rattle.pt_explain.specs.Entries.{entries_from, entry_row, entry_rows, refused_text}
use Rattle.pt_explain.specs.Explanations.{refused_reason}
use Rattle.pt_explain.specs.Rows.{row}
use Rattle.pt_explain.proofs.EntryLines.{rows_added, rows_refused}
use Rattle.pt_explain.proofs.Pairs.{pair}
use Rattle.pt_explain.proofs.Saying.{on_ok}
use Rattle.pt_explain.proofs.effects.put_effects.Goals as goal

pub put_entries-requires : goal.put_entries-requires
put_entries-requires g c =
    subst (λ e. (core_state e).start.at ≤ c.args.from) (sym c.core.ensures) c.requires

pub returns-then-entries-from-clause-ok : goal.returns-then-entries-from-clause-ok
returns-then-entries-from-clause-ok g c =
    let s = as_script c.args.engine.now in
    let own : List ℕ × List ℕ = (c.args.own.now.words.now, c.args.own.now.source.now) in
    let old = c.args.out.now.items in
    on_ok c.put_refusal.result c.put_refusal.ensures.ok
    (λ e. rows_refused (refused_reason s c.args.request.now)
    (entry_row own c.args.from (core_of s)) c.args.from s.entries
    (c.args.from - s.start.at) old c.put_refusal.new.out.items
    (omega (
      arith,
      c.entries.ensures,
      c.if-entries-from.true,
      place-history_since s.start
          s.entries,
    ))
    (e ∙ ap (λ r. old ++ row refused_text r)
    (pair c.refused_reason.ensures.words c.refused_reason.ensures.source)))

pub returns-clause-ok : goal.returns-clause-ok
returns-clause-ok g c =
    let s = as_script c.args.engine.now in
    let own : List ℕ × List ℕ = (c.args.own.now.words.now, c.args.own.now.source.now) in
    let from = c.args.from in
    let old = c.args.out.now.items in
    on_ok c.put_entries.result c.put_entries.ensures.ok
    (λ e. rows_added (refused_reason s c.args.request.now) (entry_row own from (core_of s)) from
    s.entries (from - s.start.at) old c.put_entries.new.out.items
    (omega (
      arith,
      c.entries.ensures,
      c.if-entries-from.false,
      c.requires,
      place-history_since s.start s.entries,
    ))
    (e ∙ ap (λ k. old ++ entry_rows (entry_row own from (core_state k)) from (entries_from k from))
    c.core.ensures))
