use Rattle.hub_base.proofs.OneReading.{gives-text, gives-fault, found-text, found-fits, found-fault}
use Rattle.hub_text.proofs.reader.read_journal.Goals as goal

pub returns : goal.returns
returns c =
    let text = c.args.bytes.now in
    let gives = c.read_all.ensures.gives in
    record {
      only = gives-text text _ gives;
      refused = gives-fault text _ gives;
      found = found-text text _ gives;
      fits = found-fits text _ gives;
      faulty = found-fault text _ gives;
      exact = gives;
      memory = c.read_all.ensures.memory;
    }
