-- A client that has not joined yet has got no answers.
use Rattle.std.proofs.Common.{◌≡◌, ℕ, ◌≤◌, ◌<◌, ◌==◌, false, List, [], ◌∷◌, refl, sym, ◌∙◌, arith}
use Rattle.std.proofs.lemmas.Bool.Decides.{nat_tests}
use Rattle.pt_model.specs.declared.entry.Entry.{Entry}
use Rattle.pt_model.specs.Searches.{Each}
use Rattle.pt_model.specs.Records.{ReplyView}
use Rattle.pt_model.specs.Starts.{Start}
use Rattle.pt_model.specs.Histories.{History, Begin, ◌▷◌, place, append_entries, history_since}
use Rattle.pt_model.specs.Answers.{entry_replies, replies_from, open_calls}
use Rattle.pt_model.specs.Steps.{Follows}
use Rattle.pt_model.proofs.Lists.{Each-weaker}
use Rattle.pt_model.proofs.Histories.{follows-part, place-append_entries}
use Rattle.pt_model.proofs.Sound.{Fresh-follows, alive_below, below_open}
use Rattle.pt_model.proofs.DeadAndDestroyed.{ToLiving, entry_replies-alive}
use Rattle.pt_client_events.specs.Tallies.{reply_count_in, reply_count, open_call_count}
use Rattle.pt_client_events.proofs.CallCounts.{calls_of-none, calls_of-open}
use Rattle.pt_client_events.proofs.EntryTallies.{reply_count_in-append}

-- if all answers go to clients below a number, a client that is not below it gets none
heard_below : (n c : ℕ) (ts : List ReplyView) → Each (λ (t : ReplyView). t.client < n) ts → n ≤ c
    → reply_count_in c ts ≡ 0
heard_below n c [] a le = refl
heard_below n c (t ∷ ts) a le =
    let lt : t.client < n = a.0 in
    let ne : (t.client == c) ≡ false = grind (arith, nat_tests) in
    rw ne (heard_below n c ts a.1 le)

heard_from : (c : ℕ) (h : History) (es : List Entry) → Follows (append_entries h es)
    → place (append_entries h es) ≤ c → reply_count_in c (replies_from h es) ≡ 0
heard_from c h [] f le = refl
heard_from c h (e ∷ es) f le =
    let s = follows-part (h ▷ e) es f in
    let low : place h ≤ c = omega (arith, le, place-append_entries (h ▷ e) es) in
    let here : reply_count_in c (entry_replies h e) ≡ 0 =
    heard_below (place h) c (entry_replies h e)
    (Each-weaker (ToLiving h) (λ (t : ReplyView). t.client < place h)
    (λ t a. alive_below h t.client (Fresh-follows h s.0) a) (entry_replies h e)
    (entry_replies-alive h e s.0 s.1))
    low in
    omega (
      arith,
      reply_count_in-append c (entry_replies h e) (replies_from (h ▷ e) es),
      here,
      heard_from c (h ▷ e) es f le,
    )

pub stranger-entry_replies : (s : Start) (es : List Entry) (c : ℕ) → Follows (history_since s es)
    → place (history_since s es) ≤ c → reply_count s es c ≡ 0
stranger-entry_replies s es c f le = heard_from c (Begin s) es f le

pub stranger-open : (h : History) (c : ℕ) → Follows h → place h ≤ c → open_call_count h c ≡ 0
stranger-open h c f le =
    sym (calls_of-open h c f)
    ∙ calls_of-none c (open_calls h)
    (λ w i. let lt : w.client < place h = (below_open h w (Fresh-follows h f) i).1 in
    grind (arith, nat_tests))
