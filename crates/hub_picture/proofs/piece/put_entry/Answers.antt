use Rattle.hub_base.specs.Lines.{line}
use Rattle.hub_base.specs.declared.head.Edition.TheVariants.{Three}
use Rattle.hub_base.proofs.Editions.{three-has}
use Rattle.hub_picture.proofs.Plain.{plain-line}
use Rattle.hub_picture.proofs.Reading.{plain}
use Rattle.hub_picture.proofs.piece.put_entry.Goals as goal

pub write_entry-requires : goal.write_entry-requires
write_entry-requires c = record { fits = three-has c.by_slice.result.step }

pub returns-in-Ok : goal.returns-in-Ok
returns-in-Ok c = plain (line c.by_slice.result) c.in-Ok.ensures.ok (plain-line Three c.by_slice.result c.write_entry.ensures.fits)
