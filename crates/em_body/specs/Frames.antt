-- What a frame means.
use Rattle.em_body.specs.declared.stack.Frame.{Frame}
use Rattle.em_body.specs.Standings.{Left}

abbrev pub left_of : Frame → Left
left_of f = record { rest = f.rest.now; block = f.block.now; again = f.again }
