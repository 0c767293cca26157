-- What forced entries leave unchanged.
use Rattle.std.proofs.Common.{◌≡◌, ℕ, ◌+◌, true, List, [], ◌∷◌, refl, ◌∙◌, arith}
use Rattle.pt_model.specs.declared.entry.Entry.{Entry}
use Rattle.pt_model.specs.declared.entry.Entry.TheVariants.{Join, Call, Death, Moment, Grant, Trip}
use Rattle.pt_model.specs.declared.entry.Entry.TheVariants.{Yield, Expire}
use Rattle.pt_model.specs.Histories.{History, ◌▷◌, append_entries, outer}
use Rattle.pt_model.specs.Clients.{client_priority, is_alive}
use Rattle.pt_model.specs.Queries.{latest_call}
use Rattle.pt_model.specs.Answers.{entry_replies, replies_from}
use Rattle.pt_model.specs.Legal.{events_of}
use Rattle.pt_model.specs.Steps.{Follows}
use Rattle.pt_model.proofs.Histories.{follows-part}
use Rattle.pt_client_events.specs.Tallies.{reply_count_in, open_call_count}
use Rattle.pt_client_events.proofs.EntryTallies.{tally_step, reply_count_in-append}

-- what each forced entry leaves unchanged, a list of them does too
quiet : {X : Type 0} (f : History → X) → ((h : History) (e : Entry) → events_of (e ∷ []) ≡ []
    → f (h ▷ e) ≡ f h) → (h : History) (fs : List Entry) → events_of fs ≡ []
    → f (append_entries h fs) ≡ f h
quiet f one h [] e = refl
quiet f one h (Grant j x ∷ fs) e = quiet f one (h ▷ Grant j x) fs e ∙ one h (Grant j x) refl
quiet f one h (Trip b ∷ fs) e = quiet f one (h ▷ Trip b) fs e ∙ one h (Trip b) refl
quiet f one h (Yield m ∷ fs) e = quiet f one (h ▷ Yield m) fs e ∙ one h (Yield m) refl
quiet f one h (Expire j ∷ fs) e = quiet f one (h ▷ Expire j) fs e ∙ one h (Expire j) refl
quiet f one h (Join c p ∷ fs) e = absurd cc
quiet f one h (Call c call r ∷ fs) e = absurd cc
quiet f one h (Death c ∷ fs) e = absurd cc
quiet f one h (Moment z t ∷ fs) e = absurd cc

client_one : (c : ℕ) (h : History) (e : Entry) → events_of (e ∷ []) ≡ []
    → client_priority (h ▷ e) c ≡ client_priority h c
client_one c h (Grant j x) e = refl
client_one c h (Trip b) e = refl
client_one c h (Yield m) e = refl
client_one c h (Expire j) e = refl
client_one c h (Join d p) e = absurd cc
client_one c h (Call d call r) e = absurd cc
client_one c h (Death d) e = absurd cc
client_one c h (Moment z t) e = absurd cc

pub client_priority-quiet : (c : ℕ) (h : History) (fs : List Entry) → events_of fs ≡ []
    → client_priority (append_entries h fs) c ≡ client_priority h c
client_priority-quiet c h fs e = quiet (λ g. client_priority g c) (client_one c) h fs e

latest_one : (c : ℕ) (h : History) (e : Entry) → events_of (e ∷ []) ≡ []
    → latest_call (h ▷ e) c ≡ latest_call h c
latest_one c h (Grant j x) e = refl
latest_one c h (Trip b) e = refl
latest_one c h (Yield m) e = refl
latest_one c h (Expire j) e = refl
latest_one c h (Join d p) e = absurd cc
latest_one c h (Call d call r) e = absurd cc
latest_one c h (Death d) e = absurd cc
latest_one c h (Moment z t) e = absurd cc

pub latest_call-quiet : (c : ℕ) (h : History) (fs : List Entry) → events_of fs ≡ []
    → latest_call (append_entries h fs) c ≡ latest_call h c
latest_call-quiet c h fs e = quiet (λ g. latest_call g c) (latest_one c) h fs e

outer_one : (h : History) (e : Entry) → events_of (e ∷ []) ≡ [] → outer (h ▷ e) ≡ outer h
outer_one h (Grant j x) e = omega arith
outer_one h (Trip b) e = omega arith
outer_one h (Yield m) e = omega arith
outer_one h (Expire j) e = omega arith
outer_one h (Join d p) e = absurd cc
outer_one h (Call d call r) e = absurd cc
outer_one h (Death d) e = absurd cc
outer_one h (Moment z t) e = absurd cc

pub outer-quiet : (h : History) (fs : List Entry) → events_of fs ≡ []
    → outer (append_entries h fs) ≡ outer h
outer-quiet h fs e = quiet outer outer_one h fs e

-- a living client's answers plus its open call, over forced entries
pub tally-quiet : (c : ℕ) (h : History) (fs : List Entry) → events_of fs ≡ []
    → Follows (append_entries h fs) → is_alive h c ≡ true
    → reply_count_in c (replies_from h fs) + open_call_count (append_entries h fs) c
    ≡ open_call_count h c
tally-quiet c h [] e f a = omega arith
tally-quiet c h (Grant j x ∷ fs) e f a =
    let s = follows-part (h ▷ Grant j x) fs f in
    omega (
      arith,
      reply_count_in-append c (entry_replies h (Grant j x)) (replies_from (h ▷ Grant j x) fs),
      tally_step h c (Grant j x) s.0 s.1 a,
      tally-quiet c (h ▷ Grant j x) fs e f a,
    )
tally-quiet c h (Trip b ∷ fs) e f a =
    let s = follows-part (h ▷ Trip b) fs f in
    omega (
      arith,
      reply_count_in-append c (entry_replies h (Trip b)) (replies_from (h ▷ Trip b) fs),
      tally_step h c (Trip b) s.0 s.1 a,
      tally-quiet c (h ▷ Trip b) fs e f a,
    )
tally-quiet c h (Yield m ∷ fs) e f a =
    let s = follows-part (h ▷ Yield m) fs f in
    omega (
      arith,
      reply_count_in-append c (entry_replies h (Yield m)) (replies_from (h ▷ Yield m) fs),
      tally_step h c (Yield m) s.0 s.1 a,
      tally-quiet c (h ▷ Yield m) fs e f a,
    )
tally-quiet c h (Expire j ∷ fs) e f a =
    let s = follows-part (h ▷ Expire j) fs f in
    omega (
      arith,
      reply_count_in-append c (entry_replies h (Expire j)) (replies_from (h ▷ Expire j) fs),
      tally_step h c (Expire j) s.0 s.1 a,
      tally-quiet c (h ▷ Expire j) fs e f a,
    )
tally-quiet c h (Join d p ∷ fs) e f a = absurd cc
tally-quiet c h (Call d call r ∷ fs) e f a = absurd cc
tally-quiet c h (Death d ∷ fs) e f a = absurd cc
tally-quiet c h (Moment z t ∷ fs) e f a = absurd cc
