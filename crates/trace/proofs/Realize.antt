-- The listing of a closed cut is a sync-preserving correct reordering.
use Rattle.std.proofs.Common.{◌≡◌, ℕ, zero, suc, ◌<◌, ◌≤◌, List, length, sym, ap, ◌∙◌, ⊎_elim, arith}
use mathlib.Core.List.{Memᴰ}
use Rattle.std.proofs.lemmas.Bool.{both_ways, cases_Bool}
use Rattle.trace.specs.declared.event.Event.{Event}
use Rattle.trace.specs.declared.kind.Kind.TheVariants.{Read, Write}
use Rattle.trace.specs.Traces.{At, standing_after, Allowed, Admits, LastWrite}
use Rattle.trace.specs.Reorderings.{picked, LatestWrite, Correct, SyncPreserving, Ascending}
use Rattle.trace.specs.Cuts.{Positions, In, Cut, Closed, SyncWants, listed}
use Rattle.trace.specs.Cuts.SyncWants.{of_threads, last_write, earlier_release}
use Rattle.trace.specs.Cuts.ThreadWants.{spawn, awaited_spawn, awaited_last}
use Rattle.trace.proofs.Events.{at_some}
use Rattle.trace.proofs.Places.{Stands, at_split, stands, is_member, of_back}
use Rattle.trace.proofs.Ascending.{below, above, greater, ascending_front}
use Rattle.trace.proofs.Listing.{listed_in, listed_out, listed_within, listed_ascending, listed_front}
use Rattle.trace.proofs.Lookups.{last_write_from}
use Rattle.trace.proofs.Picked.{picked_push}
use Rattle.trace.proofs.Clashes.{allowed_or}
use Rattle.trace.proofs.Orders.{awaited_in}

module _ (t : List Event) (c : Positions) (admits : Admits t) (cut : Cut t c) (closed : Closed SyncWants t c) where
  -- each event of the cut is allowed after the listing of the earlier ones: the release of an acquire that it would clash with is wanted
  allowed_too : (k : ℕ) (e : Event) → In k c → At t k e → Admits (picked t (listed c k)) → Allowed (standing_after (picked t (listed c k))) e
  allowed_too k e h i rest = ⊎_elim (λ a. a)
      (λ x. absurd (both_ways (c x.release) x.missing (closed x.release (earlier_release x.first_in h x.order x.outer x.second x.same_lock x.is))))
      (allowed_or t c admits cut k e i h rest)

  -- so the listing is admitted
  listing_admitted : (k : ℕ) → k ≤ length t → Admits (picked t (listed c k))
  listing_admitted zero b = tt
  listing_admitted (suc k) b =
      let rest = listing_admitted k (omega arith) in
      let e = at_some t k b in
      ⊎_elim (λ h. rw (listed_in c k h) (picked_push t (listed c k) k e.0 e.1 rest (allowed_too k e.0 h e.1 rest)))
      (λ h. rw (listed_out c k h) rest) (cases_Bool (c k))

  module _ {k : ℕ} (s : Stands k (listed c (length t))) (e : Event) (i : At t k e) (q : e.kind ≡ Read) (w : ℕ) where
    up : Ascending (listed c (length t))
    up = listed_ascending c (length t)

    -- the cut has the last write of each read that it has
    has_last_write : (x : ℕ) → LastWrite t k x → Memᴰ x s.front
    has_last_write x l = listed_front c (length t) s x (closed x (last_write (listed_within c (length t) k (is_member s)).0 l)) l.before

    same_variable_of : (x : ℕ) (l : LastWrite t k x) → l.read.subject ≡ e.subject
    same_variable_of x l = let one : l.read ≡ e = cc l.read_is in ap (λ f. f.subject) one

    -- a read of the listing has there the last write that it has in the trace, and no other
    latest_is_last : LatestWrite t s.front e.subject w → LastWrite t k w
    latest_is_last l = record {
      before = below s up w (is_member p);
      read = e;
      write = l.write;
      read_is = i;
      write_is = l.write_is;
      is_read = q;
      is_write = l.is_write;
      same_variable = l.same_variable;
      none_between = none;
    }
      where
        p : Stands w s.front
        p = at_split l.front l.back l.stands

        none : (m : ℕ) (f : Event) → w < m → m < k → At t m f → f.kind ≡ Write → f.subject ≡ e.subject → ⊥
        none m f g b j u v =
            let (x, last, h) = last_write_from t k m e f i q j b u v in
            l.none_later x last.write (greater p (ascending_front s up) x (has_last_write x last) (omega arith)) last.write_is
            last.is_write (last.same_variable ∙ same_variable_of x last)

    last_is_latest : LastWrite t k w → LatestWrite t s.front e.subject w
    last_is_latest l = record {
      front = p.front;
      back = p.back;
      stands = p.split;
      write = l.write;
      write_is = l.write_is;
      is_write = l.is_write;
      same_variable = l.same_variable ∙ same_variable_of w l;
      none_later = λ m f j o u v. l.none_between m f (above p (ascending_front s up) m j) (below s up m (of_back p j)) o u
          (v ∙ sym (same_variable_of w l));
    }
      where
        p : Stands w s.front
        p = stands (has_last_write w l)

  -- the listing of a closed cut is a correct reordering
  pub listing_correct : Correct t (listed c (length t))
  listing_correct = record {
    in_trace = λ k i. at_some t k (listed_within c (length t) k i).1;
    once = λ xs ys k e i. let b = below (at_split xs ys e) (listed_ascending c (length t)) k i in omega arith;
    thread_prefix = λ xs ys d k e h. let s : Stands k (listed c (length t)) = at_split xs ys e in
        listed_front c (length t) s d (cut.first_events d k h (listed_within c (length t) k (is_member s)).0) h.before;
    spawns = λ xs ys m k e r. let s : Stands k (listed c (length t)) = at_split xs ys e in
        listed_front c (length t) s m (closed m (of_threads (spawn (listed_within c (length t) k (is_member s)).0 r))) r.before;
    awaited_spawns = λ xs ys m k e r. let s : Stands k (listed c (length t)) = at_split xs ys e in
        listed_front c (length t) s m (closed m (of_threads (awaited_spawn (listed_within c (length t) k (is_member s)).0 r))) r.before;
    awaited_events = λ xs ys d k e r. let s : Stands k (listed c (length t)) = at_split xs ys e in
        listed_front c (length t) s d (awaited_in t c cut k (listed_within c (length t) k (is_member s)).0
        (λ l a. closed l (of_threads (awaited_last (listed_within c (length t) k (is_member s)).0 a))) d r) r.before;
    admitted = listing_admitted (length t) (omega arith);
    reads = λ xs ys k e u i q w. (latest_is_last (at_split xs ys u) e i q w, last_is_latest (at_split xs ys u) e i q w);
  }

  -- and it keeps all events in the order of the trace
  pub listing_in_order : SyncPreserving t (listed c (length t))
  listing_in_order = record {
    in_order = λ xs ys a b e f u i o p q. below (at_split xs ys u) (listed_ascending c (length t)) a i;
  }
