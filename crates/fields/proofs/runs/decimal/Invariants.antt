-- `fields::runs::decimal` meets its contract. The loop's invariant: the digits so far are worth n, at most max. Assumes nothing.
use Rattle.fields.proofs.Worth.{Added}
use Rattle.fields.proofs.runs.decimal.Given as goal

abbrev pub invariant-loop-b : goal.invariant-loop-b
invariant-loop-b l = Added l.max l.digits l.n l.b-index
