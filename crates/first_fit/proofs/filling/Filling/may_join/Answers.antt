use Rattle.std.proofs.Common.{◌∙◌, sym, arith}
use Rattle.std.proofs.lemmas.Bool.{false≢true}
use Rattle.line_instance.specs.Truths.{IsEmpty}
use Rattle.first_fit.proofs.Joins.{meet_empty, empty_meet, side_front, side_u, stand_front, front_stand}
use Rattle.first_fit.proofs.Joins.{stand_back, back_stand}
use Rattle.first_fit.proofs.filling.Filling.may_join.Goals as goal
use Rattle.first_fit.proofs.filling.Filling.may_join.Goals.{then-time-self-via-then-time-self}
use Rattle.first_fit.proofs.filling.Filling.may_join.Goals.{then-time-self-via-else-time-self+then-not-is_empty}

pub returns-then-time-self : goal.returns-then-time-self
returns-then-time-self c = (
  λ t. absurd (false≢true t),
  λ m. elim c.then-time-self.branch [
    | then-time-self-via-then-time-self w ↦ absurd (omega (arith, w.if-time-self.true, c.time.ensures.time, m.fits))
    | then-time-self-via-else-time-self+then-not-is_empty w ↦
        let empty : IsEmpty w.meet.result = meet_empty c.args.self.now.here w.apart.result.now w.meet.result
        w.meet.ensures.value (λ j h a. m.parted j h ((w.apart.ensures.members j).0 a)) in
        sym w.if-not-is_empty.true ∙ w.is_empty.ensures.1 empty
  ],
)

pub returns-in-Front-default : goal.returns-in-Front-default
returns-in-Front-default c =
    let f = c.args.self.now in
    let line = c.args.inst.now in
    let empty : IsEmpty c.meet.result = c.is_empty.ensures.0 c.if-not-is_empty.false in (
      λ t. record {
        task = c.requires;
        front = λ x. false≢true (sym (sym c.has.ensures ∙ c.if-has.false) ∙ x);
        back = λ x. false≢true (sym (sym c.has-else-has.ensures ∙ c.if-has-2.false) ∙ x);
        side = side_front c.args.kind c.args.choice.side c.in-Front-default.is-0;
        ready = stand_front line f c.args.choice.task c.args.choice.side c.in-Front-default.is-0
            (λ j b. c.is_subset.ensures.0 t j ((c.before-in-Front-default.ensures.members j).1 b));
        fits = omega (arith, c.time.ensures.time, c.if-time-self.false);
        parted = λ j h a. empty_meet f.here c.apart.result.now c.meet.result c.meet.ensures.value empty j h
            ((c.apart.ensures.members j).1 a);
      },
      λ m. c.is_subset.ensures.1 (λ j b. front_stand line f c.args.choice.task c.args.choice.side
          c.in-Front-default.is-0 m.ready j ((c.before-in-Front-default.ensures.members j).0 b)),
    )

pub returns-in-Back-U : goal.returns-in-Back-U
returns-in-Back-U c =
    let f = c.args.self.now in
    let line = c.args.inst.now in
    let empty : IsEmpty c.meet.result = c.is_empty.ensures.0 c.if-not-is_empty.false in (
      λ t. record {
        task = c.requires;
        front = λ x. false≢true (sym (sym c.has.ensures ∙ c.if-has.false) ∙ x);
        back = λ x. false≢true (sym (sym c.has-else-has.ensures ∙ c.if-has-2.false) ∙ x);
        side = side_u c.args.kind c.args.choice.side c.in-Back-U.is-1;
        ready = stand_back line f c.args.choice.task c.args.choice.side c.in-Back-U.is-0
            (λ j b. c.is_subset-in-Back-U.ensures.0 t j ((c.after.ensures.members j).1 b));
        fits = omega (arith, c.time.ensures.time, c.if-time-self.false);
        parted = λ j h a. empty_meet f.here c.apart.result.now c.meet.result c.meet.ensures.value empty j h
            ((c.apart.ensures.members j).1 a);
      },
      λ m. c.is_subset-in-Back-U.ensures.1 (λ j b. back_stand line f c.args.choice.task c.args.choice.side
          c.in-Back-U.is-0 m.ready j ((c.after.ensures.members j).0 b)),
    )
