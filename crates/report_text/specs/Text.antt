-- The report's text by what is told and the lists that are shown.
use Rattle.std.specs.Prelude.{ℕ, ◌+◌, ◌*◌, List, [], ◌∷◌, ◌++◌, get_or}
use Rattle.definitions.specs.declared.AnswerCounts.{AnswerCounts}
use Rattle.definitions.specs.Limits.{most_listed}
use Rattle.definitions.specs.Lists.{each, up_to}
use Rattle.definitions.specs.Refusal.{Outcome, accepted, refused}
use Rattle.definitions.specs.Report.{decimal, space, newline, refused_text, sites_text, orbits_text}
use Rattle.definitions.specs.WholeCalls.{Shown}

-- a number with a space in front
abbrev pub field_text : ℕ → List ℕ
field_text n = space ∷ decimal n

-- the letter, which ends the line
abbrev pub letter_text : ℕ → List ℕ
letter_text b = space ∷ b ∷ newline ∷ []

abbrev pub line_text : Shown → ℕ → List ℕ
line_text s j =
    decimal j
    ++ field_text (get_or s.mapping j 0)
    ++ field_text (get_or s.labels j 0)
    ++ field_text (get_or s.multiplicities j 0)
    ++ letter_text (get_or s.letters j 0)

abbrev pub lines_text : Shown → ℕ → List ℕ
lines_text s n = each (line_text s) (up_to n)

abbrev pub header_text : ℕ → ℕ → List ℕ
header_text sites orbits = sites_text ++ decimal sites ++ orbits_text ++ decimal orbits ++ (newline ∷ [])

abbrev pub refusal_text : ℕ → List ℕ
refusal_text k = refused_text ++ decimal k ++ (newline ∷ [])

-- by what is told: an answer's counts, or a refusal's number
unfoldable pub shown_text : Outcome AnswerCounts → Shown → List ℕ
shown_text (accepted c) s = header_text c.sites c.orbits ++ lines_text s c.sites
shown_text (refused k) s = refusal_text k

-- Room for every report: a header of two numbers and a line of four numbers a listed site, each number of at most 20
-- digits.
abbrev pub header_bytes : ℕ
header_bytes = 55

abbrev pub line_bytes : ℕ
line_bytes = 86

abbrev pub report_bytes : ℕ
report_bytes = header_bytes + most_listed * line_bytes
