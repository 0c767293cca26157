-- What is written for a line after it is counted.
use Rattle.std.proofs.Common.{◌≡◌, ℕ, suc, ◌++◌, List, Option, Result, Ok, Err, OnOk, refl, sym}
use Rattle.std.proofs.Common.{ap, ◌∙◌, subst}
use Rattle.pt_types.specs.declared.outcome.Refusal.{Refusal}
use Rattle.pt_grammar.specs.declared.client.Who.{Who}
use Rattle.pt_grammar.specs.declared.client.Who.TheVariants.{Named, Star, Unknown}
use Rattle.pt_grammar.specs.declared.script_line.ScriptLine.{ScriptLine}
use Rattle.pt_grammar.specs.Clients.{before_space, after_space, who_named}
use Rattle.pt_grammar.specs.Script.{body_after, short_read}
use Rattle.pt_grammar.specs.declared.script_line.ScriptBody.{ScriptBody}
use Rattle.pt_grammar.specs.declared.script_line.ScriptBody.TheVariants.{Hello, Ask, Die, Tick}
use Rattle.pt_model.specs.declared.entry.Event.{Event}
use Rattle.pt_engine.specs.declared.line_id.LineId.{LineId}
use Rattle.pt_engine.specs.Scripts.{Script, event_of_body, line_id, lines_of_who, refusal_text}
use Rattle.pt_engine.specs.LineAnswers.{AnswersLine, AnswersRequest, count_line}
use Rattle.pt_engine.specs.Engines.{Appends}

-- what a line asks for is the same after it is counted
event_counted : (s : Script) (who : Who) (body : Result ScriptBody Refusal)
    → event_of_body (count_line s who) who body ≡ event_of_body s who body
event_counted s who (Err r) = refl
event_counted s (Named name) (Ok (Hello p)) = refl
event_counted s (Named name) (Ok (Ask call)) = refl
event_counted s (Named name) (Ok Die) = refl
event_counted s (Named name) (Ok (Tick clock t)) = refl
event_counted s Star (Ok (Hello p)) = refl
event_counted s Star (Ok (Ask call)) = refl
event_counted s Star (Ok Die) = refl
event_counted s Star (Ok (Tick clock t)) = refl
event_counted s Unknown (Ok body) = refl

-- what is written, if the line's event is read off after the line was counted
pub says_counted : (s mid next : Script) (line : ScriptLine) (number : ℕ)
    (asks : Result Event Refusal) (out told : List ℕ)
    → mid ≡ count_line s line.who → number ≡ suc (lines_of_who s.seen line.who)
    → asks ≡ event_of_body mid line.who line.body
    → Appends (AnswersRequest mid (record { who = line.who; number = number }) asks next) out told
    → Appends (AnswersLine s line next) out told
says_counted s mid next line number asks out told is counts says adds =
    subst (λ v. Appends (AnswersRequest (count_line s line.who)
    (line_id s line.who) v next) out told)
    (says
    ∙ ap (λ t. event_of_body t line.who line.body) is
    ∙ event_counted s line.who line.body)
    (subst
    (λ n. Appends (AnswersRequest (count_line s line.who)
    (record { who = line.who; number = n }) asks next)
    out told) counts
    (subst (λ t. Appends (AnswersRequest t
    (record { who = line.who; number = number }) asks next) out told)
    is adds))

-- a text that is not too long is read as its client and the text after it
pub short_by : (text : List ℕ) (who : Who) (behind : Option (List ℕ))
    → who ≡ who_named (before_space text) → behind ≡ after_space text
    → (record { who = who; body = body_after who behind }) ≡ short_read text
short_by text who behind is rest =
    ap (λ w. record { who = w; body = body_after w behind }) is
    ∙ ap (λ b. record {
      who = who_named (before_space text);
      body = body_after (who_named (before_space text)) b;
    }) rest

-- a line that asks for no event: its refusal was appended
pub says_refused : (s : Script) (line : LineId) (why : Refusal) (out told : List ℕ)
    → told ≡ out ++ refusal_text line why → Appends (AnswersRequest s line (Err why) s) out told
says_refused s line why out told grows = record {
  text = refusal_text line why;
  grows = grows;
  holds = (refl, refl);
}

-- what follows if a call succeeds
pub on_ok : {X E P Q : Type 0} (r : Result X E) → (P → Q) → OnOk r P → OnOk r Q
on_ok (Ok x) f is = f is
on_ok (Err e) f is = is

-- the same for a line with this refusal
pub refused_as : {X E : Type 0} (r : Result X E) (s : Script) (line : LineId)
    (asks : Result Event Refusal) (why : Refusal) (out told : List ℕ) → asks ≡ Err why
    → OnOk r (told ≡ out ++ refusal_text line why)
    → OnOk r (Appends (AnswersRequest s line asks s) out told)
refused_as r s line asks why out told is =
    on_ok r (λ grows.
    subst (λ v. Appends (AnswersRequest s line v s) out told) (sym is)
    (says_refused s line why out told grows))

-- what is written for the line in a text, if it is answered after its client was counted
pub says_text : {X E : Type 0} (r : Result X E) (s mid next : Script) (text : List ℕ) (who : Who)
    (behind : Option (List ℕ)) (number : ℕ) (asks : Result Event Refusal) (out told : List ℕ)
    → who ≡ who_named (before_space text) → behind ≡ after_space text → mid ≡ count_line s who
    → number ≡ suc (lines_of_who s.seen who) → asks ≡ event_of_body mid who (body_after who behind)
    → OnOk r (Appends (AnswersRequest mid
    (record { who = who; number = number }) asks next) out told)
    → OnOk r (Appends (AnswersLine s (short_read text) next) out told)
says_text r s mid next text who behind number asks out told is_who rest is counts says =
    on_ok r (λ adds.
    subst (λ (line : ScriptLine). Appends (AnswersLine s line next) out told)
    (short_by text who behind is_who rest)
    (says_counted s mid next (record { who = who; body = body_after who behind }) number asks out
    told is counts says adds))
