use Rattle.std.proofs.Common.{◌∙◌, ◌++◌, ap, append_assoc, arith}
use Rattle.std.specs.Prelude.{decimal}
use Rattle.hub_trace.proofs.Spelled.{both-spelled, number-spelled}
use Rattle.hub_trace.proofs.pieces.put_with.Goals as goal

pub returns : goal.returns
returns c =
    let word = c.args.word.now in
    let n = c.in-Some.number in
    record {
      text = word ++ decimal n;
      is = c.in_ok-write_number.ensures.ok ∙ ap (λ l. l ++ decimal n) c.in_ok-extend_from_slice.ensures.items
          ∙ append_assoc c.args.out.now.items word (decimal n);
      stands = λ h. both-spelled word (decimal n) h (number-spelled n (omega arith));
    }
