-- What the letter call and its step are given, as the definitions speak of it.
use Rattle.std.specs.Prelude.{ℕ, List}
use Rattle.definitions.specs.SiteCalls.{LabelCells, LetterArguments, LetterCells}
use Rattle.base_cell.specs.Given.{arguments_of}
use Rattle.data_wyckoff.specs.Spaces.{lists}
use Rattle.symmetrize_wyckoff.specs.declared.arguments.Lettering.{Lettering}
use Rattle.symmetrize_wyckoff.specs.declared.arguments.Placed.{Placed}
use Rattle.symmetrize_wyckoff.specs.Lettering.{Placed as PlacedCells}

abbrev pub placed_of : Placed → PlacedCells
placed_of x =
    record {
      positions = x.positions.now;
      basis = x.basis;
      symprec = x.symprec;
      candidates = x.multiplicities.now;
      letters = x.letters.now;
      spaces = lists x.spaces.now;
    }

abbrev pub letter_arguments_of : Lettering → LetterArguments
letter_arguments_of x =
    record {
      labelling = arguments_of x.labelling;
      positions = x.positions.now;
      basis = x.basis;
      multiplicities = x.multiplicities.now;
      letters = x.letters.now;
      texts = x.texts.now;
      symprec = x.symprec;
    }

-- the three lists that are lent
abbrev pub letter_cells : LabelCells → List ℕ → LetterCells
letter_cells o letters = record { labels = o.labels; multiplicities = o.multiplicities; letters = letters }
