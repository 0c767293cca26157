-- What holds of an engine whose core and stored lines are unchanged.
use Rattle.std.proofs.Common.{◌≡◌, ℕ, List, [], sym, ap, subst, ◌∙◌}
use Rattle.pt_model.specs.Starts.{empty_start}
use Rattle.pt_legal.specs.Cores.{CoreState, CoreView, history_of, core_state}
use Rattle.pt_engine.specs.declared.line_id.LineId.{LineId}
use Rattle.pt_engine.specs.Names.{NamesView}
use Rattle.pt_engine.specs.Scripts.{Script, empty_script, entries_between_seals}
use Rattle.pt_engine.specs.Engines.{AreLines, IsSound}

pub stays_sound : (old new : CoreView) (asked now calls : List (ℕ × LineId)) → new ≡ old → now
    ≡ asked
    → IsSound (core_state old) × AreLines asked calls (history_of (core_state old))
    → IsSound (core_state new) × AreLines now calls (history_of (core_state new))
stays_sound old new asked now calls same rows sound =
    subst (λ (core : CoreView). IsSound (core_state core)
    × AreLines now calls (history_of (core_state core)))
    (sym same)
    (sound.0, subst (λ xs. AreLines xs calls (history_of (core_state old))) (sym rows) sound.1)

-- an engine that has read no line
pub begun_known : (core : CoreState) (names : NamesView) (calls : List (ℕ × LineId))
    → core ≡ record { start = empty_start; entries = []; limit = entries_between_seals }
    → names ≡ record { seen = []; clients = [] } → calls ≡ []
    → (record {
      start = core.start;
      entries = core.entries;
      seen = names.seen;
      clients = names.clients;
      calls = calls;
    }) ≡ empty_script
begun_known core names calls is none noted =
    let known : CoreState → NamesView → List (ℕ × LineId) → Script = λ k n cs. record {
      start = k.start;
      entries = k.entries;
      seen = n.seen;
      clients = n.clients;
      calls = cs;
    } in
    ap (λ k. known k names calls) is
    ∙ ap (λ n. known (record { start = empty_start; entries = []; limit = entries_between_seals })
    n calls) none
    ∙ ap (λ cs. known (record { start = empty_start; entries = []; limit = entries_between_seals })
    (record { seen = []; clients = [] }) cs) noted
