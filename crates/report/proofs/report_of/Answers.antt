-- `report_of`: the lists are lent with room for every answer, and the text with room for every report.
use mathlib.Core.Path.{◌≡◌, refl, sym}
use lib.ListN.{replicate}
use lib.IntN.{pos}
use Rattle.definitions.specs.Limits.{most_listed, most_sites}
use Rattle.definitions.specs.Lent.{zero_cells, zero_point, zero_basis}
use Rattle.definitions.specs.WholeCalls.{AnswerCells, rooms_of, ample}
use lib.Seq.{length-take-le}
use Rattle.symmetrize_standardize.specs.Given.{answer_cells}
use Rattle.report.specs.Printed.{printed}
use borrow.Author.Rules.{rules}
use Rattle.report.proofs.report_of.Goals as goal

-- the lists as they are lent
abbrev lent : AnswerCells
lent =
    record {
      positions = replicate most_listed zero_cells;
      points = replicate most_listed zero_point;
      mapping = replicate most_listed 0;
      elements = replicate most_listed (pos 0);
      labels = replicate most_listed 0;
      multiplicities = replicate most_listed 0;
      letters = replicate most_listed 0;
      primitive = replicate most_sites zero_cells;
      primitive_cell_basis = zero_basis;
      listed_cell_basis = zero_basis;
      factors = zero_point;
    }

roomy : rooms_of lent ≡ ample
roomy = refl

pub returns : goal.returns
returns c =
    let a = c.args in
    let whole = c.standardize_bytes-told in
    let left = answer_cells whole.new.answer in
    let text = c.put_answer.new.text in
    let n = c.put_answer.result in
    let p = printed a.bytes.now lent left whole.result roomy whole.ensures.standardized a.text.now text n (search rules) c.put_answer.ensures in
    (p.0, (p.1, sym (length-take-le n text p.1)))
