use Rattle.std.proofs.Common.{[], arith, refl, rules}
use Rattle.hub_replay.proofs.server.converse.Goals as goal

pub converse_on-requires : goal.converse_on-requires
converse_on-requires g c = record {
  conversing = record {
    lines = [];
    rest = [];
    said = [];
    is_heard = c.requires.heard;
    is_said = c.requires.said;
    stands = c.open-conversation.ensures;
    whole = refl;
    fits = omega arith;
  };
  room = search rules;
}
