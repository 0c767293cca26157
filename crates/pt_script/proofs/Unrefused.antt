-- An event that is not refused when a seal may make room is not refused after the seal.
use Rattle.std.proofs.Common.{◌≡◌, ◌+◌, true, cond, Option, Some, None, refl, sym, ap, ◌∙◌, subst}
use Rattle.std.proofs.Common.{arith}
use Rattle.std.specs.Option.{option_or}
use Rattle.pt_types.specs.declared.outcome.Refusal.{Refusal}
use Rattle.pt_types.specs.declared.outcome.Refusal.TheVariants.{Full}
use Rattle.pt_model.specs.declared.entry.Entry.{Entry}
use Rattle.pt_model.specs.declared.entry.Event.{Event}
use Rattle.pt_model.specs.Histories.{History, Begin, ◌▷◌}
use Rattle.pt_model.specs.Forced.{forced}
use Rattle.pt_model.specs.Room.{need, entry_for, is_full, exceeds_limit, needs_seal, refusal}
use Rattle.pt_model.specs.Room.{refusal_with_seals, refusal_within}
use Rattle.pt_model.specs.Seals.{seal}
use Rattle.pt_model.specs.SealLaws.{ContinuesAlike}
use Rattle.pt_model.specs.Steps.{Step}
use Rattle.pt_model.proofs.ContinuesAlike.{agrees_on}
use Rattle.pt_model.proofs.Induction.{start-seal}
use Rattle.pt_model.proofs.Steps.{step-event}
use Rattle.pt_legal.specs.Cores.{CoreState, history_of}
use Rattle.pt_legal.specs.Applying.{core_for_event}
use Rattle.pt_legal.proofs.SealRoom.{needs-parts, none-over, refused-without}
use Rattle.pt_engine.specs.Engines.{IsLegal}
use Rattle.pt_engine.proofs.Opened.{legal_follow, legal_settle, opened_by, sealed_alike}

-- if neither of two refusals applies, the first does not
pub not_refused : (a b : Option Refusal) → option_or a b ≡ None → a ≡ None
not_refused None b e = refl
not_refused (Some why) b e = absurd cc

module _ (core : CoreState) (l : IsLegal core) (v : Event)
    (none : refusal_with_seals core.limit (history_of core) v ≡ None) where
  abbrev h : History
  h = history_of core

  abbrev g : History
  g = Begin (seal (history_of core))

  alike : ContinuesAlike (history_of core) (Begin (seal (history_of core)))
  alike = sealed_alike core l

  ok : refusal (history_of core) v ≡ None
  ok =
      not_refused (refusal h v) (cond (is_full core.limit h v) (Some Full) None) none

  quiet : forced (Begin (seal (history_of core))) ≡ None
  quiet = sym alike.forces ∙ legal_settle core l

  refused : refusal (Begin (seal (history_of core))) v ≡ None
  refused = sym (alike.refuses v) ∙ ok

  step : Step (history_of core) (entry_for (history_of core) v)
  step = step-event h v (legal_settle core l) ok

  step_sealed : Step (Begin (seal (history_of core))) (entry_for (history_of core) v)
  step_sealed = subst (Step g) (sym (alike.enters v)) (step-event g v quiet refused)

  -- the need after the event's entry is the same with a seal
  need_sealed : need (g ▷ entry_for g v) ≡ need (h ▷ entry_for h v)
  need_sealed =
      ap (λ (e : Entry). need (g ▷ e)) (sym (alike.enters v))
      ∙ sym (agrees_on (h ▷ entry_for h v) (g ▷ entry_for h v) (legal_follow core l, step)
      (start-seal h (legal_follow core l), step_sealed) (alike.agrees (entry_for h v) step)).needs

  unrefused_sealed : needs_seal core.limit (history_of core) v ≡ true
      → refusal_within core.limit (Begin (seal (history_of core))) v ≡ None
  unrefused_sealed needs =
      let room = (needs-parts core.limit h v needs).1 in
      ap (λ o. option_or o (cond (exceeds_limit core.limit (g ▷ entry_for g v))
      (Some Full) None)) refused
      ∙ ap (λ b. cond b (Some Full) None)
      (none-over core.limit (1 + need (g ▷ entry_for g v)) (omega (arith, room, need_sealed)))

  pub unrefused_opened : refusal_within (core_for_event core v).limit
      (history_of (core_for_event core v)) v ≡ None
  unrefused_opened =
      opened_by (λ k. refusal_within k.limit (history_of k) v ≡ None) core v
      (λ same. sym (refused-without core.limit h v same) ∙ none)
      (λ needs. unrefused_sealed needs)
