-- What the code keeps of a program, and of a function that is written.
use Rattle.reach_prune.specs.declared.grounds.Grounds.{Grounds}
use Rattle.reach_prune.specs.declared.bodies.Setting.{Setting}
use Rattle.winnowed_form.specs.Basis.{Basis}
use Rattle.winnowed_form.specs.Bodies.{Writing}
use Rattle.reach_prune.specs.Mirrors.Places.{place_in}

abbrev pub shown : Grounds → Basis
shown g = record { program = g.program.now; cycles = g.cycles; entry = g.entry }

abbrev pub shown_setting : Setting → Writing
shown_setting w = record { basis = shown w.grounds.now; home = w.home; place = place_in w.places.now; stays = w.stays.now }
