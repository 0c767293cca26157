use Rattle.std.proofs.Common.{◌≤◌, ◌∙◌, ◌++◌, sym, ap, subst}
use Rattle.pt_engine.specs.Engines.{as_script}
use Rattle.pt_engine.specs.Scripts.{event_of_line}
use Rattle.pt_legal.specs.Cores.{core_state}
use Rattle.pt_explain.specs.ObjectRows.{object_rows}
use Rattle.pt_explain.proofs.Pairs.{pair}
use Rattle.pt_explain.proofs.Saying.{effects_told, explained, on_ok, start_before}
use Rattle.pt_explain.proofs.lines.explain_line.Goals as goal

pub put_effects-requires : goal.put_effects-requires
put_effects-requires g c =
    let said = c.in_ok-answer.ensures.ok in
    subst (λ n. (as_script c.answer.new.self).start.at ≤ n) (sym c.entries-place.ensures)
    (start_before (as_script c.args.engine.now) c.read_line-line.result
    (as_script c.answer.new.self) said.text said.holds)

pub returns-clause-ok : goal.returns-clause-ok
returns-clause-ok g c =
    let said = c.in_ok-answer.ensures.ok in
    let place = c.entries-place.result in
    let s = as_script c.args.engine.now in
    let next = as_script c.answer.new.self in
    let asked = c.event_of-request.result in
    let own = c.own_reason-own.result in
    on_ok c.put_byte.result c.put_byte.ensures.ok
    (explained s c.args.cut.now c.read_line-line.result next asked
    c.args.out.now.items c.put_line.new.out.items c.put_effects.new.out.items
    c.put_quoted.new.out.items c.put_objects.new.out.items c.put_byte.new.out.items
    c.deref.result.now said.text place
    c.read_line-line.ensures c.entries-place.ensures
    (c.event_of-request.ensures
    ∙ ap (λ l. event_of_line s l) (c.copy_line.ensures ∙ c.read_line-line.ensures))
    (c.deref.ensures.value ∙ said.grows ∙ ap (λ xs. xs ++ said.text) c.clear.ensures.items)
    said.holds c.in_ok-put_line.ensures.ok
    (effects_told s c.read_line-line.result next said.text asked place c.put_line.new.out.items
    c.put_effects.new.out.items (own.words.now, own.source.now) said.holds
    (c.event_of-request.ensures ∙ ap (λ l. event_of_line s l) c.copy_line.ensures)
    c.entries-place.ensures (pair c.own_reason-own.ensures.words c.own_reason-own.ensures.source)
    c.in_ok-put_effects.ensures.ok)
    c.in_ok-put_quoted.ensures.ok
    (c.in_ok-put_objects.ensures.ok
    ∙ ap (λ e. c.put_quoted.new.out.items
    ++ object_rows (core_state e) c.clients.result.now place) c.core.ensures
    ∙ ap (λ cs. c.put_quoted.new.out.items
    ++ object_rows (core_state c.answer.new.self.core) cs place) c.clients.ensures))
