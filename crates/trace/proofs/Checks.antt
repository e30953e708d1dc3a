-- What becomes of the tables of the trace check with one event.
use Rattle.std.proofs.Common.{◌≡◌, ℕ, true, false, List, [], ◌∷◌, is_ok, Some, None, Option, Ok, Err, Result, sym, refl, ap, ◌∙◌, arith}
use Rattle.trace.specs.declared.event.Event.{Event}
use Rattle.trace.specs.declared.check.TraceCheck.{TraceCheck}
use Rattle.trace.specs.declared.locks.TraceFault.{TraceFault}
use Rattle.trace.specs.Faults.{trace_number}
use Rattle.trace.specs.Traces.{Standing, at_start, turn, begin, name, after_event, standing_after, lock_refusal, ended_refusal, thread_refusal, or_else, trace_refusal}
use Rattle.trace.specs.Locks.{holders}
use Rattle.trace.specs.Threads.{lives, life_refusal}
use Rattle.trace.specs.Checks.{standing, SameStanding, Turned}
use Rattle.trace.proofs.Holders.{neither, from_lets, after_append, same_refusal, same_after_event}

-- standings that are the same as one are the same
pub same_chain : {a b c : Standing} → SameStanding a b → SameStanding b c → SameStanding a c
same_chain x y = record { holders = λ l. x.holders l ∙ y.holders l; lives = λ p. x.lives p ∙ y.lives p }

pub same_equal : {a b : Standing} → a ≡ b → SameStanding a b
same_equal q = record { holders = λ l. ap (λ (s : Standing). s.holders l) q; lives = λ p. ap (λ (s : Standing). s.lives p) q }

module _ (check : TraceCheck) (e : Event) where
  -- an event that the trace check lets come
  pub turned : (next : TraceCheck) → trace_refusal (standing check) e ≡ None → SameStanding (standing next) (after_event (standing check) e)
      → Turned check e (Ok tt) next
  turned next lets step =
      record {
        by_standing = sym lets;
        standing_then = step;
        answer = λ t tells. sym (sym (same_refusal (standing check) (standing_after t) e tells) ∙ lets);
        tells = λ t tells. same_chain step (same_chain (same_after_event (standing check) (standing_after t) e tells)
            (same_equal (sym (after_append at_start t (e ∷ [])))));
        same = λ q. absurd (grind arith);
      }

  -- and one that it turns away
  pub refused : (f : TraceFault) → trace_refusal (standing check) e ≡ Some (trace_number f) → Turned check e (Err f) check
  refused f is =
      record {
        by_standing = sym is;
        standing_then = same_equal refl;
        answer = λ t tells. sym (sym (same_refusal (standing check) (standing_after t) e tells) ∙ is);
        tells = λ t tells. tells;
        same = λ q. refl;
      }

  -- an event that the threads and then the locks let come
  pub turned_both : (next : TraceCheck) → None ≡ life_refusal (lives check.threads) e → None ≡ lock_refusal e.kind e.thread (holders check.locks e.subject)
      → ((l : ℕ) → holders next.locks l ≡ turn e.kind e.thread e.subject (holders check.locks) l)
      → ((p : ℕ) → lives next.threads p ≡ name e.kind e.subject (begin e.thread (lives check.threads)) p) → Turned check e (Ok tt) next
  turned_both next living lock held known =
      let (l, s) = neither (ended_refusal (lives check.threads e.thread)) _ (sym living) in
      turned next (from_lets (standing check) e (record { living = l; startable = s; lock = sym lock })) (record { holders = held; lives = known })

  -- one that the threads turn away
  pub refused_thread : (f : TraceFault) → Some (trace_number f) ≡ life_refusal (lives check.threads) e → Turned check e (Err f) check
  refused_thread f is = refused f (first (ended_refusal (lives check.threads e.thread))
      (thread_refusal e.kind e.thread e.subject (lives check.threads e.subject)) _ (trace_number f) (sym is))
    where
      first : (a b c : Option ℕ) (n : ℕ) → or_else a b ≡ Some n → or_else a (or_else b c) ≡ Some n
      first None None c n q = absurd (grind arith)
      first None (Some m) c n q = q
      first (Some m) b c n q = q

  -- and one that its lock turns away
  pub refused_lock : (f : TraceFault) → None ≡ life_refusal (lives check.threads) e
      → Some (trace_number f) ≡ lock_refusal e.kind e.thread (holders check.locks e.subject) → Turned check e (Err f) check
  refused_lock f living is =
      let (l, s) = neither (ended_refusal (lives check.threads e.thread)) _ (sym living) in
      refused f (rw (l, s) (sym is))
