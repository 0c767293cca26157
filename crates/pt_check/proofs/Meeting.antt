-- Meeting: what is written for a line for which memory was not lacking.
use Rattle.std.proofs.Common.{◌≡◌, ◌∙◌, ◌-◌, ◌++◌, ℕ, Bool, true, false, List, []}
use Rattle.std.proofs.Common.{◌∷◌, length, drop, decimal, Some, Result, Ok, Err}
use Rattle.std.proofs.Common.{append_assoc, length-append, codes, refl, sym, ap, subst, arith}
use Rattle.std.proofs.Math.Seq.{drop-append_seam}
use Rattle.std.specs.List.{ends_with}
use lib.Pointwise.{pointwise}
use Rattle.pt_types.specs.Words.{refusal_word}
use Rattle.pt_types.specs.declared.outcome.Refusal.{Refusal}
use Rattle.pt_types.specs.declared.outcome.Refusal.TheVariants.{Enomem}
use Rattle.pt_grammar.specs.declared.script_line.ScriptLine.{ScriptLine}
use Rattle.pt_lines.specs.Replies.{sender}
use Rattle.pt_model.specs.declared.entry.Event.{Event}
use Rattle.pt_engine.specs.declared.line_id.LineId.{LineId}
use Rattle.pt_engine.specs.Scripts.{Script, event_of_line, line_id, refusal_text}
use Rattle.pt_engine.specs.LineAnswers.{AnswersLine, AnswersEvent, AnswersRequest, count_line, refuses}
use Rattle.pt_engine.specs.LineAnswers.{lacks, accepts}
use Rattle.pt_engine.specs.Engines.{Appends}
use Rattle.pt_script.specs.Laws.{AnswersEventIf, AnswersRequestIf, refused, accepted}
use Rattle.pt_check.specs.Agreements.{Met}

-- a text that has this end ends with it
pub ends_so : (eq : ℕ → ℕ → Bool) (front text end : List ℕ) → text ≡ front ++ end
    → ends_with eq text end ≡ pointwise eq end end
ends_so eq front text end is =
    let len : length (front ++ end) - length end ≡ length front =
    omega (arith, length-append front end) in
    ap (λ t. pointwise eq end (drop (length t - length end) t)) is
    ∙ ap (λ n. pointwise eq end (drop n (front ++ end))) len
    ∙ ap (pointwise eq end) (drop-append_seam front end)

-- the text of a line for which memory was lacking
enomem_ends : (line : LineId)
    → refusal_text line Enomem
    ≡ (sender (Some line.who) ++ decimal line.number) ++ codes " ENOMEM\n"
enomem_ends line =
    append_assoc (sender (Some line.who) ++ decimal line.number) (32 ∷ refusal_word Enomem)
    (10 ∷ [])

abbrev EndsNot : List ℕ → Type 0
EndsNot text = (front : List ℕ) → text ≡ front ++ codes " ENOMEM\n" → ⊥

of_event : (s : Script) (v : Event) (line : LineId) (next : Script) (text : List ℕ)
    → AnswersEvent s v line next text → EndsNot text → AnswersEventIf false s v line next text
of_event s v line next text (refuses r) other = refused r
of_event s v line next text (lacks u) other =
    absurd (other (sender (Some line.who) ++ decimal line.number) (u.written ∙ enomem_ends line))
of_event s v line next text (accepts a) other = accepted refl a

of_line : (s : Script) (line : LineId) (r : Result Event Refusal) (next : Script)
    (text : List ℕ) → AnswersRequest s line r next text → EndsNot text
    → AnswersRequestIf false s line r next text
of_line s line (Err why) next text says other = says
of_line s line (Ok v) next text says other = of_event s v line next text says other

-- what was appended to nothing, and does not end so, is what the rules answer
pub met_line : (s : Script) (line asked : ScriptLine) (next : Script) (old out shown : List ℕ)
    (unmet : Bool) → asked ≡ line → old ≡ [] → Appends (AnswersLine s asked next) old out → shown
    ≡ out
    → ((front : List ℕ) → shown ≡ front ++ codes " ENOMEM\n" → unmet ≡ true) → unmet ≡ false
    → Met s line next out
met_line s line asked next old out shown unmet read none says same ends so =
    subst (λ l. Met s l next out) read
    (of_line (count_line s asked.who) (line_id s asked.who) (event_of_line s asked) next out
    (subst (λ t. AnswersLine s asked next t) (sym text) says.holds) fine)
  where
    text : out ≡ says.text
    text = says.grows ∙ ap (λ o. o ++ says.text) none

    fine : EndsNot out
    fine front is = (let both = sym (ends front (same ∙ is)) ∙ so in cc)
