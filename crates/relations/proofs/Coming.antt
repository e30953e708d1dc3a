-- The examples of events that may come next.
use Rattle.std.proofs.Common.{◌≡◌, ℕ, zero, suc, ◌<◌, [], ◌∷◌, sym, refl, ◌∙◌, subst, arith, lit<}
use mathlib.Core.List.Memᴰ
use mathlib.Core.List.{Memᴰ}
use Rattle.std.proofs.lemmas.Option.{none-some, same_Some}
use Rattle.std.proofs.lemmas.Bool.{false≢true}
use Rattle.trace.specs.declared.event.Event.{Event}
use Rattle.trace.specs.declared.kind.Kind.TheVariants.{Read, Write, Acquire}
use Rattle.trace.specs.Traces.{At, Outer, LastWrite}
use Rattle.trace.specs.Reorderings.{LatestWrite}
use Rattle.trace.specs.Checks.{Tells}
use Rattle.trace.proofs.Lookups.{last_write_found}
use Rattle.predict.proofs.Tests.{is_earlier}
use Rattle.reorder.specs.Comes.{HasSpawns, HasEvents, Agrees, Comes}
use Rattle.reorder.proofs.Agreeing.{not_join}
use Rattle.reorder.proofs.Coming.{comes_at}
use Rattle.reorder.proofs.Members.{no_place}
use Rattle.cases.specs.Examples.{event, sections_between, writes_locked, read_between, worker_awaited}
use Rattle.relations.specs.Reorderings.{write_within}
use Rattle.relations.specs.Next.{AcquiresAgree, ThreadHad, ReadAgrees, AcquireComes, TableAnswered}
use Rattle.relations.specs.Traces.{held_by}
use Rattle.relations.proofs.Tracing.{held_tells}
use Rattle.relations.proofs.Reordering.{section_reordering}

-- the acquire of the second thread is outer
second_outer : Outer writes_locked 3 (event Acquire 1 0 tt tt)
second_outer = record { is = refl; is_acquire = refl; outside = refl }

pub acquires_agree : AcquiresAgree
acquires_agree = (λ a m f o. before a m, λ h. let b = h 3 (Memᴰ.head refl) (event Acquire 1 0 tt tt) second_outer refl in omega arith)
  where
    before : (a : ℕ) → Memᴰ a (0 ∷ 2 ∷ []) → {A : Type 0} → A → a < 3
    before a (Memᴰ.head e) i = omega arith
    before a (Memᴰ.tail m) i = let e = Memᴰ.eq_of_singleton m in omega arith

-- the list has the spawn of thread 1, and its write
spawns_had : HasSpawns worker_awaited (1 ∷ []) 2 1
spawns_had zero b h = absurd (false≢true h)
spawns_had (suc zero) b h = Memᴰ.head refl
spawns_had (suc (suc m)) b h = absurd (omega arith)

events_had : HasEvents worker_awaited (2 ∷ []) 4 1
events_had zero b h = absurd (false≢true h)
events_had (suc zero) b h = absurd (false≢true h)
events_had (suc (suc zero)) b h = Memᴰ.head refl
events_had (suc (suc (suc zero))) b h = absurd (false≢true h)
events_had (suc (suc (suc (suc m)))) b h = absurd (omega arith)

pub thread_had : ThreadHad
thread_had = (
  spawns_had,
  λ h. let e = Memᴰ.eq_of_singleton (h 1 (lit< tt) refl) in omega arith,
  events_had,
  λ h. Memᴰ.not-nil (h 2 (lit< tt) refl),
)

-- the write to variable 1 is the only one in the list
module _ (w : ℕ) where
  latest_one : LatestWrite read_between (0 ∷ 1 ∷ []) 1 w → LastWrite read_between 2 w
  latest_one h = of_place (subst (Memᴰ w) (sym h.stands) (Memᴰ.append_right h.front (Memᴰ.head refl))) h.write h.write_is h.same_variable
    where
      of_place : Memᴰ w (0 ∷ 1 ∷ []) → (e : Event) → At read_between w e → e.subject ≡ 1 → LastWrite read_between 2 w
      of_place (Memᴰ.head i) e is x = absurd (let h = rw i at is in grind arith)
      of_place (Memᴰ.tail m) e is x = subst (LastWrite read_between 2) (sym (Memᴰ.eq_of_singleton m)) (((last_write_found read_between 2).0 1).0 refl)

  one_latest : LastWrite read_between 2 w → LatestWrite read_between (0 ∷ 1 ∷ []) 1 w
  one_latest l =
      let h = ((last_write_found read_between 2).0 w).1 l in
      let e : 1 ≡ w = grind arith in
      subst (LatestWrite read_between (0 ∷ 1 ∷ []) 1) e (record {
        front = 0 ∷ [];
        back = [];
        stands = refl;
        write = event Write 0 1 tt tt;
        write_is = refl;
        is_write = refl;
        same_variable = refl;
        none_later = λ m e i. absurd (Memᴰ.not-nil i);
      })

pub read_agrees : ReadAgrees
read_agrees = (
  record {
    reads = λ r w. (latest_one w, one_latest w);
    acquires = λ o. let a = o.is_acquire in absurd (grind arith);
    awaited_spawns = λ s h. absurd (not_join read_between 2 (event Read 1 1 tt tt) Read refl refl h.join h.join_is h.is_join (λ q. absurd (grind arith)));
    awaited_events = λ d h. absurd (not_join read_between 2 (event Read 1 1 tt tt) Read refl refl h.join h.join_is h.is_join (λ q. absurd (grind arith)));
  },
  λ h. let l = (h.reads refl 1).1 (((last_write_found read_between 2).0 1).0 refl) in no_place l.front l.back 1 l.stands,
)

first_comes : Comes sections_between [] 3
first_comes = comes_at sections_between section_reordering (record { front = []; back = 4 ∷ []; split = refl })

swap_not_next : Comes write_within (3 ∷ 4 ∷ []) 0 → ⊥
swap_not_next h =
    let is = h.is in
    let e : event Acquire 0 0 tt tt ≡ h.event = cc in
    let agrees = subst (λ e. Agrees write_within (3 ∷ 4 ∷ []) 0 e) (sym e) h.agrees in
    let first : Outer write_within 0 (event Acquire 0 0 tt tt) = record { is = refl; is_acquire = refl; outside = refl } in
    let second : Outer write_within 3 (event Acquire 1 0 tt tt) = record { is = refl; is_acquire = refl; outside = refl } in
    let b = agrees.acquires first 3 (Memᴰ.head refl) (event Acquire 1 0 tt tt) second refl in omega arith

release_not_first : Comes sections_between [] 4 → ⊥
release_not_first h = Memᴰ.not-nil (h.enabled.ready 3 (is_earlier sections_between 3 4 refl))

pub acquire_comes : AcquireComes
acquire_comes = (first_comes, release_not_first, swap_not_next)

pub table_answered : TableAnswered
table_answered = (
  record { right = (λ some. first_comes, λ comes. refl); told = λ table same. subst (λ t. Tells t (event Acquire 1 0 tt tt ∷ [])) (same_Some (held_by 1) table same) tells },
  record { right = (λ some. absurd (false≢true some), λ comes. absurd (release_not_first comes)); told = λ table same. absurd (none-some table same) },
  λ h. false≢true (h.right.1 first_comes),
  λ table h. swap_not_next (h.right.0 refl),
  λ table free h. none-some _ (sym (free.holders 0) ∙ (h.told table refl).holders 0),
)
  where
    tells : Tells (held_by 1) (event Acquire 1 0 tt tt ∷ [])
    tells = held_tells 1 tt
