use Rattle.std.proofs.Common.{arith, sym, ◌∙◌}
use Rattle.reading.proofs.Passing.{passed_block}
use Rattle.reading.proofs.skip.Goals as goal

-- none of the block at p passes: on behind it
pub loop-p-preserved : goal.loop-p-preserved
loop-p-preserved g c = (
  omega arith,
  omega arith,
  λ t same. passed_block t (c.loop-p.invariant.2 t same) g.row.N (omega arith)
      (sym (c.any_of.ensures t (λ k r l h e. same k r (omega arith) (omega arith) e)) ∙ c.if-not-any_of.true),
)
