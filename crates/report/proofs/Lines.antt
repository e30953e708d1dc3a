-- The lines of the events, one line more at a time.
use Rattle.std.proofs.Common.{◌≡◌, ℕ, suc, ◌+◌, ◌<◌, List, [], ◌∷◌, ◌++◌, length, get_or, take, Some, Ok, Err, sym, refl, ap, ◌∙◌, append_assoc, append-nil, arith, length-take}
use Rattle.std.specs.List.{slice_get}
use Rattle.std.proofs.lemmas.List.{take_more}
use Rattle.std.proofs.lemmas.Option.{slice_get-get_or}
use Rattle.trace.specs.declared.event.Event.{Event}
use Rattle.trace.specs.declared.check.TraceCheck.{TraceCheck}
use Rattle.trace.specs.declared.locks.TraceFault.{TraceFault}
use Rattle.trace.specs.Traces.{Admits, depth_at}
use Rattle.trace.specs.Checks.{standing, Tells, Turned}
use Rattle.trace.specs.Depths.{depth_in}
use Rattle.trace.proofs.Depths.{held_as_deep}
use Rattle.trace.proofs.Holders.{admits_take}
use Rattle.trace.proofs.Releases.{allowed_in}
use Rattle.report.specs.Texts.{event_line, event_lines}

module _ (t : List Event) where
  -- the first events, and the next one
  more : (k : ℕ) (e : Event) → k < length t → Some e ≡ slice_get t k → take (k + 1) t ≡ take k t ++ (e ∷ [])
  more k e inside is =
      let there = slice_get-get_or t k e inside in
      let e_is : get_or t k e ≡ e = cc in
      take_more t k e inside ∙ rw e_is refl

  -- the line of an event more
  lines_push : (k : ℕ) (es : List Event) (e : Event)
      → event_lines t k (es ++ (e ∷ [])) ≡ event_lines t k es ++ event_line (k + length es) e (depth_at t (k + length es) e)
  lines_push k [] e = let n : k + 0 ≡ k = omega arith in rw n (append-nil (event_line k e (depth_at t k e)))
  lines_push k (f ∷ es) e =
      let n : k + suc (length es) ≡ k + 1 + length es = omega arith in
      let line = event_line k f (depth_at t k f) in
      rw n (ap (λ (bs : List ℕ). line ++ bs) (lines_push (k + 1) es e) ∙ sym (append_assoc line (event_lines t (k + 1) es) _))

  -- the lines of the first events, with that of the next one
  pub lines_more : (k : ℕ) (e : Event) → k < length t → Some e ≡ slice_get t k
      → event_lines t 0 (take k t) ++ event_line k e (depth_at t k e) ≡ event_lines t 0 (take (k + 1) t)
  lines_more k e inside is =
      let many : length (take k t) ≡ k = simp length-take (omega arith) in
      let zero : 0 + length (take k t) ≡ k = omega arith in
      sym (ap (event_lines t 0) (more k e inside is) ∙ lines_push 0 (take k t) e ∙ rw zero refl)

-- a trace check that tells of the first k events of an admitted trace
module _ (t : List Event) (admitted : Admits t) (check : TraceCheck) (k : ℕ) (tells : Tells check (take k t)) (e : Event) (is : Some e ≡ slice_get t k) where
  -- tells how deep the thread of the next event is in its lock
  pub depth_told : depth_in ((standing check).holders e.subject) e.thread ≡ depth_at t k e
  depth_told = ap (λ o. depth_in o e.thread) (tells.holders e.subject) ∙ held_as_deep (take k t) (admits_take t k admitted) e.thread e.subject

  -- lets that event come
  pub lets_next : (f : TraceFault) (next : TraceCheck) → Turned check e (Err f) next → ⊥
  lets_next f next turned = let q = turned.answer (take k t) tells ∙ allowed_in t k e admitted (sym is) in grind arith

  -- and then tells of one event more
  pub tells_next : (next : TraceCheck) → k < length t → Turned check e (Ok tt) next → Tells next (take (k + 1) t)
  tells_next next inside turned = rw (more t k e inside is) (turned.tells (take k t) tells)
