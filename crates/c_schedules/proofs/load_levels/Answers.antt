-- `load_levels` meets its contract: what is loaded is the session's (`Loaded`), and each arm knows its subject.
use Rattle.c_layout.specs.Layout.{decoding}
use Rattle.c_schedules.proofs.Laws.{Loaded, loads, day_loaded, day_levels_lem, total_loaded, total_levels_lem}
use Rattle.c_schedules.proofs.load_levels.Goals as goal
use Rattle.c_schedules.proofs.load_levels.Goals.{After-load_present}

loaded : (c : After-load_present) → Loaded (decoding c.args.session.now) c.days_of-n.result c.first_of-first.result c.load_present.new.rises c.load_present.new.floors c.load_present.new.ceilings
loaded c = loads c.args.session.now c.days_of-n.ensures c.first_of-first.ensures (c.load_present.ensures.rises_after, (c.load_present.ensures.floors_after, c.load_present.ensures.ceilings_after))

pub write_through-requires : goal.write_through-requires
write_through-requires c =
    day_loaded (loaded (goal.at.write_through-requires c).After-load_present) _ c.requires.1 _ c.in-Day.is c.total_of-lowest.ensures.0

pub raise_to-requires : goal.raise_to-requires
raise_to-requires c =
    total_loaded (loaded (goal.at.raise_to-requires c).After-load_present) _ c.requires.1 c.in-Total.is

pub returns-in-Day : goal.returns-in-Day
returns-in-Day c =
    day_levels_lem (loaded (goal.at.returns-in-Day c).After-load_present) _ c.requires.1 _ c.in-Day.is c.total_of-lowest.ensures.0 c.write_through.ensures.floors_after

pub returns-in-Total : goal.returns-in-Total
returns-in-Total c =
    total_levels_lem (loaded (goal.at.returns-in-Total c).After-load_present) _ c.requires.1 c.in-Total.is c.raise_to.ensures
