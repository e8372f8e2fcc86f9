-- A float by its eight bytes, one by one.
use Rattle.std.specs.Prelude.{ℕ, ◌+◌, List, get_or, Float}
use Rattle.definitions.specs.Job.{float}
use Rattle.job_laws.specs.Reader.{place}

abbrev pub word8 : List ℕ → ℕ → ℕ
word8 bs at =
    place (get_or bs at 0) (place (get_or bs (at + 1) 0) (place (get_or bs (at + 2) 0) (place (get_or bs (at + 3) 0)
    (place (get_or bs (at + 4) 0) (place (get_or bs (at + 5) 0) (place (get_or bs (at + 6) 0) (get_or bs (at + 7) 0)))))))

abbrev pub float_at : List ℕ → ℕ → Float
float_at bs at = float (word8 bs at)
