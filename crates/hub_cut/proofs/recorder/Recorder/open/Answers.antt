use Rattle.std.proofs.Common.{[], ap, refl, arith}
use Rattle.hub_core.specs.HubView.{HubView}
use Rattle.hub_chapters.specs.Chapters.Chapters.{First}
use Rattle.hub_cut.proofs.recorder.Recorder.open.Goals as goal

pub invariant_of-result : goal.invariant_of-result
invariant_of-result c =
    let same = c.in_ok-hub.ensures.ok in
    record {
      head = rw same c.in_ok-hub.ensures.bounds.0;
      limit = ap (λ (h : HubView). h.terms.limit) same;
      keep = c.requires.keep;
      recorder = (
        First [],
        record {
          legal = refl;
          present = ap (λ (h : HubView). h.journal) same;
          before = refl;
          checkpoint = refl;
          fresh = refl;
          bytes = refl;
          few = omega arith;
          full = λ waited. tt;
          bases = λ p few. c.no_bases.ensures p.0;
        },
      );
      lines = rw same (omega arith);
      bytes = omega arith;
      text_before = tt;
    }
