-- Histories that agree go on alike: whatever comes next, they agree again and answer alike.
use Rattle.std.proofs.Common.{◌≡◌, ℕ, suc, ◌⊎◌, inl, inr, ◌==◌, Bool, true, false, cond, not, ◌&&◌}
use Rattle.std.proofs.Common.{◌||◌, List, [], ◌∷◌, ◌++◌, Option, Some, None, refl, sym, ap, ◌∙◌}
use Rattle.std.proofs.Common.{subst, arith, filter}
use Rattle.std.proofs.lemmas.Bool.Decides.{nat_tests}
use Rattle.pt_types.specs.declared.call.Call.{Call as FunctionCall}
use Rattle.pt_types.specs.declared.outcome.Outcome.{Outcome}
use Rattle.pt_types.specs.declared.operations.ObjectClass.{ObjectClass}
use Rattle.pt_types.specs.declared.operations.ObjectClass.TheVariants.{Mutex as MutexClass}
use Rattle.pt_types.specs.declared.operations.ObjectClass.TheVariants.{Rwlock as RwlockClass}
use Rattle.pt_types.specs.declared.operations.ObjectClass.TheVariants.{Cond as CondClass}
use Rattle.pt_types.specs.MutexTable.{is_some_number, is_acquired, after_yield}
use Rattle.pt_types.specs.Tables.{reply}
use Rattle.pt_model.specs.declared.entry.Cause.TheVariants.{Signalled, Broadcasted}
use Rattle.pt_model.specs.declared.entry.Entry.{Entry}
use Rattle.pt_model.specs.declared.entry.Entry.TheVariants.{Join, Call, Death, Moment, Grant, Trip}
use Rattle.pt_model.specs.declared.entry.Entry.TheVariants.{Yield, Expire}
use Rattle.pt_model.specs.Searches.{In, least, option_list}
use Rattle.pt_model.specs.declared.waiting_call.WaitingCall.{WaitingCall}
use Rattle.pt_model.specs.Histories.{History, ◌▷◌, place}
use Rattle.pt_model.specs.Clients.{client_priority_by, is_alive, living_count_by, clock_by}
use Rattle.pt_model.specs.Objects.{is_class, object_named, named_by, kind_of, object_count_by}
use Rattle.pt_model.specs.WaitingCall.{is_cond_wait_if, is_cond_wait, final_mutex}
use Rattle.pt_model.specs.Answers.{client_or_zero, at_barrier, trip_replies, expiry_replies}
use Rattle.pt_model.specs.Answers.{entry_replies}
use Rattle.pt_model.specs.Answers.{open_calls, open_place}
use Rattle.pt_model.specs.Moves.{cause_if_among, is_at_cond, cond_waits, least_cond_wait}
use Rattle.pt_model.specs.Moves.{precedes_by}
use Rattle.pt_model.specs.Moves.{cause_by_expiry, move_or, wait_move}
use Rattle.pt_model.specs.Mutexes.{mutex_count, consistency_by_operation, consistency}
use Rattle.pt_model.specs.Rwlocks.{is_reader_here, is_writer_here, reads_after_unlock, is_writer}
use Rattle.pt_model.specs.Rwlocks.{read_count}
use Rattle.pt_model.specs.Grants.{grant_outcome}
use Rattle.pt_model.specs.Forced.{forced}
use Rattle.pt_model.specs.Verdicts.{verdict}
use Rattle.pt_model.specs.Steps.{Step, joins, calls, dies, ticks, grants, trips, yields, expires}
use Rattle.pt_model.specs.Steps.{Follows}
use Rattle.pt_model.specs.SealLaws.{Agree, AgreementLasts}
use Rattle.pt_model.proofs.Lists.{In-filter}
use Rattle.pt_model.proofs.Effects.{Effect, Idle, Creates, Removes, Relocks, Frees, Mends, Returns}
use Rattle.pt_model.proofs.Effects.{Wakes, Waits, effect, Allowed}
use Rattle.pt_model.proofs.Allowances.{allowed}
use Rattle.pt_model.proofs.Changes.{left_by, kind_effect, cause_effect, gives_up, mends, returns_it}
use Rattle.pt_model.proofs.Changes.{consistency_effect, Resolved, resolved}
use Rattle.pt_model.proofs.Readings.{kind-call, consistency-call, is_writer-call, reads-call}
use Rattle.pt_model.proofs.Found.{found_open, newest_call}
use Rattle.pt_model.proofs.Sound.{Fresh-follows}
use Rattle.pt_model.proofs.Moves.{wait_move-call, wait_move-expire}
use Rattle.pt_model.proofs.Opens.{stands_at_barrier, open-join, open-moment, open-yield, open-call}
use Rattle.pt_model.proofs.Opens.{open-death, open-grant, open-expire, open-trip, left, was_open}
use Rattle.pt_model.proofs.Counts.{Balanced-follows, counted, mutex_count-call, mutex_count-grant, mutex_count-yield}
use Rattle.pt_model.proofs.Disjoint.{unmade}
use Rattle.pt_model.proofs.Rwlocks.{is_writer-grant, read_count-grant}
use Rattle.pt_model.proofs.NotCreated.{unmade-all}
use Rattle.pt_model.proofs.Agreeing.{least-alike, find_object-alike, open-alike, calls-alike, forced-alike}
use Rattle.pt_model.proofs.Agreeing.{alive-alike}
use Rattle.pt_model.proofs.Alike.{verdict-alike, entry-alike, refusal-alike, need-alike}
use Rattle.pt_model.proofs.Alike.{effect-alike}

-- an object of this class exists, or is the next to be made
abbrev pub IsNear : History → ObjectClass → ℕ → Type 0
IsNear h s o = (is_class (kind_of h o) s ≡ true) ⊎ (place h ≡ o)

module _ (h g : History) (a : Agree h g) (f : Follows h) (k : Follows g) where
  counts-near : (m c : ℕ) → IsNear h MutexClass m → mutex_count h m c ≡ mutex_count g m c
  counts-near m c (inl t) = a.counts m c t
  counts-near m c (inr e) =
      let x = unmade h f m c (omega (arith, e)) in
      let y = unmade g k m c (omega (arith, e, a.places)) in
      omega (arith, x, y)

  consistencies-near : (m : ℕ) → IsNear h MutexClass m → consistency h m ≡ consistency g m
  consistencies-near m (inl t) = a.consistencies m t
  consistencies-near m (inr e) =
      (unmade-all h f).consistencies m (omega (arith, e))
      ∙ sym ((unmade-all g k).consistencies m (omega (arith, e, a.places)))

  writers-near : (r c : ℕ) → IsNear h RwlockClass r → is_writer h r c ≡ is_writer g r c
  writers-near r c (inl t) = a.writers r c t
  writers-near r c (inr e) =
      (unmade-all h f).writers r c (omega (arith, e))
      ∙ sym ((unmade-all g k).writers r c (omega (arith, e, a.places)))

  readers-near : (r c : ℕ) → IsNear h RwlockClass r → read_count h r c ≡ read_count g r c
  readers-near r c (inl t) = a.readers r c t
  readers-near r c (inr e) =
      (unmade-all h f).readers r c (omega (arith, e))
      ∙ sym ((unmade-all g k).readers r c (omega (arith, e, a.places)))

  -- two histories agree after an entry if they do in what depends on it
  more : (e : Entry)
      → ((o : ℕ) → kind_of (h ▷ e) o ≡ kind_of (g ▷ e) o)
      → ((s : ObjectClass) (o : ℕ) → is_class (kind_of (h ▷ e) o) s ≡ true → IsNear h s o)
      → ((m c : ℕ) → IsNear h MutexClass m → mutex_count (h ▷ e) m c ≡ mutex_count (g ▷ e) m c)
      → ((m : ℕ) → IsNear h MutexClass m → consistency (h ▷ e) m ≡ consistency (g ▷ e) m)
      → ((r c : ℕ) → IsNear h RwlockClass r → is_writer (h ▷ e) r c ≡ is_writer (g ▷ e) r c)
      → ((r c : ℕ) → IsNear h RwlockClass r → read_count (h ▷ e) r c ≡ read_count (g ▷ e) r c)
      → open_calls (h ▷ e) ≡ open_calls (g ▷ e)
      → ((w : WaitingCall) → In w (open_calls (h ▷ e))
      → wait_move (h ▷ e) w.place ≡ wait_move (g ▷ e) w.place)
      → Agree (h ▷ e) (g ▷ e)
  more e kinds near counts consistencies writers readers opens moves =
      record {
        places = ap suc a.places;
        clocks = λ z. ap (λ t. clock_by e t z) (a.clocks z);
        clients = λ c. ap (λ p. client_priority_by e p c) (a.clients c);
        living = ap (living_count_by e) a.living;
        names = λ n. ap (λ p. named_by e p (object_named h n) n) a.places
            ∙ ap (λ o. named_by e (place g) o n) (a.names n);
        kinds = kinds;
        objects = ap (object_count_by e) a.objects;
        counts = λ m c t. counts m c (near MutexClass m t);
        consistencies = λ m t. consistencies m (near MutexClass m t);
        writers = λ r c t. writers r c (near RwlockClass r t);
        readers = λ r c t. readers r c (near RwlockClass r t);
        calls = opens;
        moves = moves;
      }

  -- after an entry that leaves nothing waiting, each open call was open before
  was : (e : Entry) → Step h e → left h e ≡ [] → (w : WaitingCall) → In w (open_calls (h ▷ e))
      → In w (open_calls h)
  was e s none w i =
      elim (was_open h e f s w i) [
        | inl j ↦ j
        | inr j ↦ absurd (subst (λ (ws : List WaitingCall). In w ws) none j)
      ]

  waiting-alike : (n : List ℕ) → cond_waits h (wait_move h) n ≡ cond_waits g (wait_move g) n
  waiting-alike n =
      calls-alike h g a f (is_at_cond h (wait_move h) n) (is_at_cond g (wait_move g) n)
      (λ w i. rw (a.moves w i, find_object-alike h g a f n CondClass) refl)

  first-alike : (n : List ℕ) → least_cond_wait h (wait_move h) n ≡ least_cond_wait g (wait_move g) n
  first-alike n =
      ap option_list (least-alike (precedes_by (wait_move h)) (precedes_by (wait_move g))
      (cond_waits h (wait_move h) n) (λ v w i j. rw (
        a.moves v (there v i),
        a.moves w
            (there w j),
      ) refl)
      ∙ ap (least (precedes_by (wait_move g))) (waiting-alike n))
    where
      there : (w : WaitingCall) → In w (cond_waits h (wait_move h) n) → In w (open_calls h)
      there w i = (In-filter (is_at_cond h (wait_move h) n) (open_calls h) w i).0

  cause-alike : (E : Effect) (j : ℕ) → cause_effect h (wait_move h) E j
      ≡ cause_effect g (wait_move g) E j
  cause-alike (Wakes n true) j = ap (λ ws. cause_if_among ws Broadcasted j) (waiting-alike n)
  cause-alike (Wakes n false) j = ap (λ ws. cause_if_among ws Signalled j) (first-alike n)
  cause-alike Idle j = refl
  cause-alike (Creates n kind) j = refl
  cause-alike (Removes n s o) j = refl
  cause-alike (Relocks m) j = refl
  cause-alike (Frees m) j = refl
  cause-alike (Mends m) j = refl
  cause-alike (Returns r) j = refl
  cause-alike (Waits w) j = refl

  near_effect : (E : Effect) (s : ObjectClass) (o : ℕ)
      → is_class (kind_effect (place h) E (kind_of h o) o) s ≡ true → IsNear h s o
  near_effect (Creates n kind) s o t = go (place h == o) refl t
    where
      go : (b : Bool) → (place h == o) ≡ b → is_class (cond b (Some kind) (kind_of h o)) s ≡ true
          → IsNear h s o
      go true e x = inr (grind (arith, nat_tests))
      go false e x = inl x
  near_effect (Removes n z q) s o t = go (q == o) t
    where
      go : (b : Bool) → is_class (cond b None (kind_of h o)) s ≡ true → IsNear h s o
      go true x = absurd cc
      go false x = inl x
  near_effect Idle s o t = inl t
  near_effect (Relocks m) s o t = inl t
  near_effect (Frees m) s o t = inl t
  near_effect (Mends m) s o t = inl t
  near_effect (Returns r) s o t = inl t
  near_effect (Wakes n all) s o t = inl t
  near_effect (Waits w) s o t = inl t

  agrees-call : (c : ℕ) (call : FunctionCall) (n : forced h ≡ None)
      (l : is_alive h c ≡ true)
      (o : open_place h c ≡ None)
      → Agree (h ▷ Call c call (reply (verdict h c call)))
      (g ▷ Call c call (reply (verdict h c call)))
  agrees-call c call n l o =
      more e
      (λ q. kind-call h c call r (kind_of h q) q
      ∙ (ap (λ at. kind_effect at (effect h c call r) (kind_of h q) q) a.places
      ∙ (ap (λ E. kind_effect (place g) E (kind_of h q) q) same
      ∙ (ap (λ x. kind_effect (place g) (effect g c call r) x q) (a.kinds q)
      ∙ sym (kind-call g c call r (kind_of g q) q)))))
      (λ s q t. near_effect (effect h c call r) s q
      (sym (ap (λ x. is_class x s) (kind-call h c call r (kind_of h q) q)) ∙ t))
      (λ m d t. mutex_count-call h c call r m d (resolved h c call) (Balanced-follows h f)
      ∙ (ap (λ E. counted c E m d (mutex_count h m d)) same
      ∙ (ap (λ x. counted c (effect g c call r) m d x) (counts-near m d t)
      ∙ sym (mutex_count-call g c call r m d resolved' (Balanced-follows g k)))))
      (λ m t. consistency-call h c call r (resolved h c call) m (consistency h m)
      ∙ (ap (λ E. consistency_effect h c E m (consistency h m)) same
      ∙ (ap (λ x. consistency_by_operation (mends (effect g c call r) m)
      (gives_up (effect g c call r) m && (x == 1)) (consistency h m)) (counts-near m c t)
      ∙ (ap (λ x. consistency_effect g c (effect g c call r) m x) (consistencies-near m t)
      ∙ sym (consistency-call g c call r resolved' m (consistency g m))))))
      (λ q d t. is_writer-call h c call r q d (is_writer h q d)
      ∙ (ap (λ E. cond (returns_it E q && (c == d)) false (is_writer h q d)) same
      ∙ (ap (λ x. cond (returns_it (effect g c call r) q && (c == d)) false x) (writers-near q d t)
      ∙ sym (is_writer-call g c call r q d (is_writer g q d)))))
      (λ q d t. reads-call h c call r q d (read_count h q d)
      ∙ (ap (λ E. cond (returns_it E q
      && (c == d)) (reads_after_unlock (is_writer h q d) (read_count h q d))
      (read_count h q d)) same
      ∙ (ap (λ x. cond (returns_it (effect g c call r) q && (c == d))
      (reads_after_unlock x (read_count h q d)) (read_count h q d)) (writers-near q d t)
      ∙ (ap (λ x. cond (returns_it (effect g c call r) q && (c == d))
      (reads_after_unlock (is_writer g q d) x) x) (readers-near q d t)
      ∙ sym (reads-call g c call r q d (read_count g q d))))))
      (open-call h c call r (Fresh-follows h f) l (allowed h c call)
      ∙ (ap (λ E. open_calls h ++ left_by E) same
      ∙ (ap (λ ws. ws ++ left_by (effect g c call r)) a.calls
      ∙ sym (open-call g c call r (Fresh-follows g k) (sym (alive-alike h g a f c) ∙ l) allowed'))))
      (λ w i. wait_move-call h c call r w.place
      ∙ (ap (λ at. move_or at (cause_effect h (wait_move h) (effect h c call r) w.place)
      (wait_move h w.place)) a.places
      ∙ (ap (λ x. move_or (place g) x (wait_move h w.place))
      (cause-alike (effect h c call r) w.place
      ∙ ap (λ E. cause_effect g (wait_move g) E w.place) same)
      ∙ (ap (λ x. move_or (place g) (cause_effect g (wait_move g) (effect g c call r) w.place) x)
      (moves w (was_open h e f (calls c call n l o) w i))
      ∙ sym (wait_move-call g c call r w.place)))))
    where
      r : Option Outcome
      r = reply (verdict h c call)

      e : Entry
      e = Call c call (reply (verdict h c call))

      same : effect h c call (reply (verdict h c call)) ≡ effect g c call (reply (verdict h c call))
      same = effect-alike h g a f c call (reply (verdict h c call))

      back : reply (verdict g c call) ≡ reply (verdict h c call)
      back = sym (ap reply (verdict-alike h g a f c call))

      allowed' : Allowed g c (effect g c call (reply (verdict h c call)))
      allowed' = subst (λ x. Allowed g c (effect g c call x)) back (allowed g c call)

      resolved' : Resolved g call (reply (verdict h c call))
      resolved' = subst (λ x. Resolved g call x) back (resolved g c call)

      moves : (w : WaitingCall)
          → In w (open_calls h) ⊎ In w (left h (Call c call (reply (verdict h c call))))
          → wait_move h w.place ≡ wait_move g w.place
      moves w (inl i) = a.moves w i
      moves w (inr i) =
          let at : w.place ≡ place h =
          (newest_call h c (effect h c call (reply (verdict h c call))) (allowed h c call) w i).0 in
          (Fresh-follows h f).moves w.place (omega (arith, at))
          ∙ sym ((Fresh-follows g k).moves w.place (omega (arith, at, a.places)))

  pub agrees : (e : Entry) → Step h e → Agree (h ▷ e) (g ▷ e)
  agrees _ (joins p n lt) =
      more (Join (place h) p) a.kinds (λ s o t. inl t) counts-near consistencies-near writers-near
      readers-near
      (open-join h p (Fresh-follows h f)
      ∙ (a.calls ∙ sym (subst (λ at. open_calls (g ▷ Join at p) ≡ open_calls g) (sym a.places)
      (open-join g p (Fresh-follows g k)))))
      (λ w i. a.moves w (was _ (joins p n lt) refl w i))
  agrees _ (calls c call n l o) = agrees-call c call n l o
  agrees _ (dies c n l) =
      more (Death c) a.kinds
      (λ s o t. inl t) counts-near consistencies-near writers-near readers-near
      (open-death h c ∙ (ap (filter (λ w. not (w.client == c))) a.calls ∙ sym (open-death g c)))
      (λ w i. a.moves w (was _ (dies c n l) refl w i))
  agrees _ (ticks z t n) =
      more (Moment z t) a.kinds (λ s o t. inl t) counts-near consistencies-near writers-near
      readers-near (open-moment h z t ∙ (a.calls ∙ sym (open-moment g z t)))
      (λ w i. a.moves w (was _ (ticks z t n) refl w i))
  agrees _ (grants w s i t) =
      let j = open-alike h g a f w i in
      let x = grant_outcome h w in
      more (Grant w.place (grant_outcome h w)) a.kinds (λ s o t. inl t)
      (λ m c near. mutex_count-grant h w x m c f i
      ∙ (ap (λ n. cond (is_acquired x && (is_some_number (final_mutex w.role w.object) m
      && (w.client == c))) (suc n) n) (counts-near m c near)
      ∙ sym (mutex_count-grant g w x m c k j)))
      consistencies-near
      (λ r c near. is_writer-grant h w x r c f i
      ∙ (ap (λ b. cond (is_writer_here w.role ((w.object == r) && (w.client == c))) true b)
      (writers-near r c near) ∙ sym (is_writer-grant g w x r c k j)))
      (λ r c near. read_count-grant h w x r c f i
      ∙ (ap (λ n. cond (is_reader_here w.role ((w.object == r) && (w.client == c))) (suc n) n)
      (readers-near r c near) ∙ sym (read_count-grant g w x r c k j)))
      (open-grant h w.place x
      ∙ (ap (filter (λ v. not (v.place == w.place))) a.calls ∙ sym (open-grant g w.place x)))
      (λ v l. a.moves v (was _ (grants w s i t) refl v l))
  agrees _ (trips w s i t) =
      more (Trip w.object) a.kinds (λ s o t. inl t) counts-near consistencies-near writers-near
      readers-near
      (open-trip h w.object f
      ∙ (ap (filter (λ v. not (stands_at_barrier w.object v))) a.calls
      ∙ sym (open-trip g w.object k)))
      (λ v l. a.moves v (was _ (trips w s i t) refl v l))
  agrees _ (yields m s t) =
      more (Yield m) a.kinds (λ s o t. inl t)
      (λ o c near. mutex_count-yield h m o c
      ∙ (ap (λ n. cond (m == o) 0 n) (counts-near o c near) ∙ sym (mutex_count-yield g m o c)))
      (λ o near. ap (λ x. cond (m == o) (after_yield x) x) (consistencies-near o near))
      writers-near readers-near
      (open-yield h m ∙ (a.calls ∙ sym (open-yield g m)))
      (λ v l. a.moves v (was _ (yields m s t) refl v l))
  agrees _ (expires w s i t) =
      let j = open-alike h g a f w i in
      more (Expire w.place) a.kinds (λ s o t. inl t) counts-near consistencies-near writers-near
      readers-near
      (open-expire h w f i
      ∙ (ap (filter (λ v. is_cond_wait w.role || not (v.place == w.place))) a.calls
      ∙ sym (open-expire g w k j)))
      (λ v l. wait_move-expire h w f i v.place
      ∙ (ap (λ at. move_or at (cause_by_expiry (w.place == v.place) (is_cond_wait w.role))
      (wait_move h v.place)) a.places
      ∙ (ap (λ x. move_or (place g) (cause_by_expiry (w.place == v.place) (is_cond_wait w.role)) x)
      (a.moves v (was _ (expires w s i t) refl v l))
      ∙ sym (wait_move-expire g w k j v.place))))

  -- what an entry answers
  pub entry_replies-alike : (e : Entry) → Step h e → entry_replies h e ≡ entry_replies g e
  entry_replies-alike _ (calls c call n l o) = go (reply (verdict h c call))
    where
      go : (r : Option Outcome) → entry_replies h (Call c call r) ≡ entry_replies g (Call c call r)
      go None = refl
      go (Some x) = ap (λ p. record { client = c; place = p; outcome = x } ∷ []) a.places
  entry_replies-alike _ (grants w s i t) =
      ap (λ o. record { client = client_or_zero o; place = w.place; outcome = grant_outcome h w }
      ∷ [])
      (found_open h f w i ∙ sym (found_open g k w (open-alike h g a f w i)))
  entry_replies-alike _ (trips w s i t) = ap (λ ws. trip_replies (at_barrier w.object ws)) a.calls
  entry_replies-alike _ (expires w s i t) =
      ap (λ o. expiry_replies w.place o (is_cond_wait_if o))
      (found_open h f w i ∙ sym (found_open g k w (open-alike h g a f w i)))
  entry_replies-alike _ (joins p n lt) = refl
  entry_replies-alike _ (dies c n l) = refl
  entry_replies-alike _ (ticks z t n) = refl
  entry_replies-alike _ (yields m s t) = refl

-- histories that agree go on alike
pub agrees_on : AgreementLasts
agrees_on h g f k a =
    record {
      forces = forced-alike h g a f;
      refuses = refusal-alike h g a f;
      enters = entry-alike h g a f;
      needs = need-alike h g a f;
      agrees = agrees h g a f k;
    }
