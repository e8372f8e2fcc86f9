-- The report program's text: "`refused K`, or a header (listed sites, then orbits; ..) and one line a listed site:
-- site, primitive site, label, multiplicity, letter".
use Rattle.std.specs.Prelude.{ℕ, zero, suc, ◌+◌, ◌/◌, ◌%◌, true, false, List, [], ◌∷◌, ◌++◌, get_or, ltb}
use Rattle.definitions.specs.Lists.{each, up_to}
use Rattle.definitions.specs.Refusal.{Outcome, accepted, refused}
use Rattle.definitions.specs.Standardize.{Answer}

-- the decimal digits of n, which has at most d of them
unfoldable pub decimal_in : ℕ → ℕ → List ℕ
decimal_in zero n = []
decimal_in (suc d) n = elim (ltb n 10) [ true ↦ (48 + n) ∷ [] | false ↦ decimal_in d (n / 10) ++ ((48 + n % 10) ∷ []) ]

-- every number here is below 10 ^ 20
abbrev pub decimal : ℕ → List ℕ
decimal n = decimal_in 20 n

abbrev pub space : ℕ
space = 32

abbrev pub newline : ℕ
newline = 10

-- "refused "
abbrev pub refused_text : List ℕ
refused_text = 114 ∷ 101 ∷ 102 ∷ 117 ∷ 115 ∷ 101 ∷ 100 ∷ space ∷ []

-- "sites "
abbrev pub sites_text : List ℕ
sites_text = 115 ∷ 105 ∷ 116 ∷ 101 ∷ 115 ∷ space ∷ []

-- " orbits "
abbrev pub orbits_text : List ℕ
orbits_text = space ∷ 111 ∷ 114 ∷ 98 ∷ 105 ∷ 116 ∷ 115 ∷ space ∷ []

-- the letter is "its byte as given, the rest in decimal"
abbrev pub site_line : Answer → ℕ → List ℕ
site_line a j =
    decimal j
    ++ (space ∷ decimal (get_or a.mapping j 0))
    ++ (space ∷ decimal (get_or a.labels j 0))
    ++ (space ∷ decimal (get_or a.multiplicities j 0))
    ++ (space ∷ get_or a.letters j 0 ∷ newline ∷ [])

unfoldable pub report : Outcome Answer → List ℕ
unfolding decimal_in each
report (refused k) = refused_text ++ decimal k ++ (newline ∷ [])
report (accepted a) =
    (sites_text ++ decimal a.sites ++ orbits_text ++ decimal a.orbits ++ (newline ∷ []))
    ++ each (site_line a) (up_to a.sites)
