use Rattle.explore_command.proofs.search.search.Goals as goal

pub returns : goal.returns
returns g c = rw (← c.new-walker.ensures) (record {
  sound = c.in_ok-outcomes.ensures.sound;
  complete = c.in_ok-outcomes.ensures.complete;
  tried = c.in_ok-outcomes.ensures.tried;
  short = c.in_ok-outcomes.ensures.short;
})
