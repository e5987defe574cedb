use Rattle.std.proofs.Common.{ℕ, arith, subst, sym}
use Rattle.std.specs.Global.{Vec}
use Rattle.hub_picture.proofs.Reading.{LeadsOn}
use Rattle.hub_picture.proofs.Reading.{elements-more, elements-so-far}
use Rattle.hub_picture.proofs.svg.legend.put_signs.Goals.{then-occurs+in-Ok, else-occurs}
use Rattle.hub_picture.proofs.svg.legend.put_signs.Goals as goal

pub loop-mark-preserved : goal.loop-mark-preserved
loop-mark-preserved c =
    let On = λ (v : Vec ℕ). LeadsOn c.args.out.now v in
    elim c.if-occurs.branch [
      | then-occurs+in-Ok w ↦
          record {
            on = subst On (sym w.out-is) (elements-more c.loop-mark.invariant.on (rw w.in-Ok.is at w.put_sign.ensures));
            few = omega (arith, w.place-is, c.loop-mark.invariant.few);
          }
      | else-occurs w ↦
          record {
            on = subst On (sym w.out-is) c.loop-mark.invariant.on;
            few = omega (arith, w.place-is, c.loop-mark.invariant.few);
          }
    ]

pub returns : goal.returns
returns c = elements-so-far c.loop-mark.invariant.on
