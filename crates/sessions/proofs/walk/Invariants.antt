-- `sessions::walk`: the phase whose turns each call of `run` takes.
use Rattle.rules.specs.Phases.{reply, status, command}
use Rattle.sessions.proofs.walk.Given as goal

abbrev pub ghost-run : goal.ghost-run
ghost-run a = reply

abbrev pub ghost-run-2 : goal.ghost-run-2
ghost-run-2 a = status

abbrev pub ghost-run-3 : goal.ghost-run-3
ghost-run-3 a = command
