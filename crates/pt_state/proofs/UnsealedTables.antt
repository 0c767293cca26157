-- Tables that are right for the seal of a history are right for the history, with its answers.
use Rattle.std.proofs.Common.{◌≡◌, ℕ, cond, List, Option, Some, None, is_some, map, sym, ap, ◌∙◌}
use Rattle.std.specs.Prelude.{option_map}
use Rattle.pt_table.specs.declared.clients.ClientRow.{ClientRow}
use Rattle.pt_table.specs.declared.objects.ObjectRow.{ObjectRow}
use Rattle.pt_table.specs.ObjectRows.{object_value}
use Rattle.pt_types.specs.Operations.{class_of, same_class}
use Rattle.pt_types.specs.declared.operations.ObjectClass.{ObjectClass}
use Rattle.pt_types.specs.declared.operations.ObjectClass.TheVariants.{Mutex as MutexClass}
use Rattle.pt_types.specs.declared.operations.ObjectClass.TheVariants.{Rwlock as RwlockClass}
use Rattle.pt_model.specs.Histories.{History, Begin}
use Rattle.pt_model.specs.Objects.{kind_of, is_class}
use Rattle.pt_model.specs.Answers.{open_calls}
use Rattle.pt_model.specs.Queries.{latest_call}
use Rattle.pt_model.specs.Seals.{seal}
use Rattle.pt_model.specs.Steps.{Follows}
use Rattle.pt_model.specs.SealLaws.{Agree}
use Rattle.pt_model.proofs.Seats.{move-sealed}
use Rattle.pt_model.proofs.Agreeing.{seal_agrees, calls-sealed, mutex-alike, write_holder-alike}
use Rattle.pt_model.proofs.Agreeing.{open-alike}
use Rattle.pt_records.specs.declared.clients.Caller.{Caller}
use Rattle.pt_records.specs.declared.objects.Object.{Object}
use Rattle.pt_records.specs.declared.objects.Object.TheVariants.{Mutex, Rwlock}
use Rattle.pt_records.specs.declared.answers.Answered.{Answered}
use Rattle.pt_records.specs.Callers.{call_of, AreCallers}
use Rattle.pt_records.specs.Logs.{log, log_entry}
use Rattle.pt_records.specs.Objects.{kind_in_row, AreObjectRows}
use Rattle.pt_state.specs.declared.clock.Clocks.{Clocks}
use Rattle.pt_state.specs.Reads.{Reads}
use Rattle.pt_state.proofs.CallerFinds.{call_of-in}
use Rattle.pt_state.proofs.LatestAnswers.{answer-sealed}

-- the rows of the living clients
callers-unsealed : (h : History) (rows : List (ClientRow Caller)) → Follows h
    → AreCallers (Begin (seal h)) rows → AreCallers h rows
callers-unsealed h rows f k =
    record {
      look = record {
        living = k.look.living;
        calls = λ c. k.look.calls c ∙ ap (λ ws. call_of ws c) (calls-sealed h);
        moves = λ c w e. k.look.moves c w (ap (λ ws. call_of ws c) (calls-sealed h) ∙ e)
            ∙ move-sealed h w (call_of-in (open_calls h) c w e).0;
        latest = λ c v e. k.look.latest c v e ∙ ap (λ b. cond b (latest_call h c) None)
            (ap is_some (sym (k.look.living c) ∙ ap (option_map (λ u. u.priority)) e));
        answers = λ c v e. k.look.answers c v e ∙ answer-sealed h f c
            (ap is_some (sym (k.look.living c) ∙ ap (option_map (λ u. u.priority)) e));
      };
      many = k.many;
      once = k.once;
    }

module _ {A : Type 0} (h : History) where
  made : (rows : List (ObjectRow (Object A))) → AreObjectRows (Begin (seal h)) rows
      → (s : ObjectClass) (o : ℕ) (x : Object A) → object_value rows o ≡ Some x
      → is_class (kind_of h o) s ≡ same_class (class_of (kind_in_row x)) s
  made rows k s o x e =
      ap (λ y. is_class y s) (sym (k.look.kinds o) ∙ ap (option_map kind_in_row) e)

  -- the rows of the objects that exist
  object_rows-unsealed : (rows : List (ObjectRow (Object A))) → Follows h
      → AreObjectRows (Begin (seal h)) rows → AreObjectRows h rows
  object_rows-unsealed rows f k =
      record {
        look = record {
          kinds = k.look.kinds;
          mutexes = λ o m e. let new = k.look.mutexes o m e in (
            new.0
                ∙ sym (mutex-alike h (Begin (seal h)) a f o (made rows k MutexClass o (Mutex m) e)),
            new.1,
          );
          rwlocks = λ o r e. let new = k.look.rwlocks o r e in record {
            writer = new.writer ∙ sym
                (write_holder-alike h (Begin (seal h)) a f o (made rows k RwlockClass o
                (Rwlock r) e));
            reads = λ c. new.reads c ∙ sym (a.readers o c (made rows k RwlockClass o (Rwlock r) e));
            rows = λ w i. new.rows w (open-alike h (Begin (seal h)) a f w i);
          };
        };
        names = k.names;
        rising = k.rising;
        many = k.many;
      }
    where
      a : Agree h (Begin (seal h))
      a = seal_agrees h f

  -- all tables
  pub reads-unsealed : (clients : List (ClientRow Caller)) (objects : List (ObjectRow (Object A)))
      (orphans : Option ℕ) (kept : Clocks) (now replies : List Answered) → Follows h
      → map log_entry replies ≡ log h → Reads (Begin (seal h)) clients objects orphans kept now
      → Reads h clients objects orphans kept replies
  reads-unsealed clients objects orphans kept now replies f answers r =
      record {
        follows = f;
        callers = callers-unsealed h clients f r.callers;
        object_rows = object_rows-unsealed objects f r.object_rows;
        chained = r.chained;
        clocks = r.clocks;
        answers = answers;
      }
