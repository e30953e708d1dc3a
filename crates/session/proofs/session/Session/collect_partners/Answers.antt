use Rattle.std.proofs.Common.{◌≡◌, ℕ, [], refl, subst, arith}
use Rattle.std.proofs.lemmas.Bool.{false≢true}
use Rattle.answer.proofs.Collecting.{adds_none}
use Rattle.session.proofs.Viewing.{trace_is}
use Rattle.session.proofs.Partnering.{PartnersBelow, partners_none, partners_more, partners_skip, partners_all, partners_beyond, entries_more}
use Rattle.session.proofs.session.Session.collect_partners.Goals as goal
use Rattle.session.proofs.session.Session.collect_partners.Goals.{then-races_beyond, else-races_beyond}

pub returns-then-q-count : goal.returns-then-q-count
returns-then-q-count g c =
    ([], partners_beyond c.args.self.now.trace c.args.q (omega arith), adds_none)

pub loop-p-init : goal.loop-p-init
loop-p-init g c = ([], partners_none c.args.self.now.trace c.args.q, adds_none)

pub loop-p-preserved : goal.loop-p-preserved
loop-p-preserved g c =
    let t = c.args.self.now.trace in
    let p = c.loop-p.p in
    let q = c.args.q in
    let i = c.loop-p.invariant in
    let same = trace_is c.self.view_is in
    let base = rw same at (c.closure_before-base.ensures (c.self.invariant.admitted)) in
    elim c.if-races_beyond.branch [
      | then-races_beyond w ↦
          rw w.out-is (
            _,
            partners_more t q i.1 ((w.if-races_beyond.ensures base).0 refl),
            entries_more (λ k. g.T.Entry.entry k q) i.0 p w.of.result w.of.ensures i.2 w.push.ensures,
          )
      | else-races_beyond w ↦
          rw w.out-is (i.0, partners_skip t q i.1 (λ racing. false≢true ((w.if-races_beyond.ensures base).1 racing)), i.2)
    ]

pub returns : goal.returns
returns g c =
    let i = c.loop-p.invariant in
    let all : c.loop-p.p ≡ c.args.q = omega arith in
    (i.0, partners_all c.args.self.now.trace c.args.q (subst (λ (n : ℕ). PartnersBelow c.args.self.now.trace c.args.q n i.0) all i.1), i.2)
