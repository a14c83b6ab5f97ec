use Rattle.std.proofs.Common.{arith, sym, ◌∙◌}
use Rattle.reading.proofs.Passing.{passed_block_back}
use Rattle.reading.proofs.skip_back.Goals as goal

-- none of the block before p passes: on before it
pub loop-p-preserved : goal.loop-p-preserved
loop-p-preserved g c = (
  omega arith,
  λ t same. passed_block_back t (c.loop-p.invariant.1 t same) g.row.N (omega arith)
      (sym (c.any_of.ensures t (λ k r l h e. same k r (omega arith) (omega arith) e)) ∙ c.if-not-any_of.true),
)
