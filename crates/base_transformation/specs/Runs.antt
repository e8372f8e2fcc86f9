-- The run of a primitive site in the list of positions: its copies, as they are lent; and the four lent lists.
use Rattle.std.specs.Prelude.{◌≡◌, ℕ, ◌+◌, ◌*◌, ◌<◌, List, map, length, ℤ, Float, slice_index_or}
use Rattle.std.specs.Fn.{Shared}
use Rattle.base_transformation.specs.declared.cell.Listing as code
use Rattle.definitions.specs.declared.Position.{Position}
use Rattle.definitions.specs.Real.{RealMatrix, origin, apply_f, add_p, sub_p, map_p}
use Rattle.definitions.specs.Cell.{reduced, point_of}
use Rattle.definitions.specs.Lent.{position_from, cells_of}
use Rattle.definitions.specs.SiteCalls.{ListingCells}

-- by C⁻¹, the copy at the point f of a site at p
abbrev pub copy_cells : RealMatrix → Position → List ℤ → List Float
copy_cells inverse p f = cells_of (map_p reduced (apply_f inverse (sub_p (add_p p (point_of f)) origin)))

-- the copies at the points fs of a site whose position is lent as v
abbrev pub run_cells : RealMatrix → List (List ℤ) → List Float → List (List Float)
run_cells inverse fs v = map (copy_cells inverse (position_from v)) fs

-- positions, points, mapping, elements
abbrev pub lists : List (List Float) → List (List ℤ) → List ℕ → List ℤ → ListingCells
lists ps fs ms es = record { positions = ps; points = fs; mapping = ms; elements = es }

-- what the code's four lists hold
abbrev pub held : code.Listing → ListingCells
held l = lists l.positions.now l.points.now l.mapping.now l.elements.now

-- .. and they are the same lists
abbrev pub SameLists : code.Listing → code.Listing → Type 0
SameLists l k =
    (k.positions.ghost_name ≡ l.positions.ghost_name)
    × (k.points.ghost_name ≡ l.points.ghost_name)
    × (k.mapping.ghost_name ≡ l.mapping.ghost_name)
    × (k.elements.ghost_name ≡ l.elements.ghost_name)

-- .. as long as they were
pub record SameRooms (entry exit : ListingCells) : Type 0 where
  pub positions : length exit.positions ≡ length entry.positions
  pub points : length exit.points ≡ length entry.points
  pub mapping : length exit.mapping ≡ length entry.mapping
  pub elements : length exit.elements ≡ length entry.elements

-- ---- what a closure of two places says of the lists that it makes

module _ {T F : Type 0} (g : Shared F (ℕ × (ℕ × Unit {0})) T) (entry : F) where
  -- it may be called at each place of n runs of m
  abbrev pub CanMake : ℕ → ℕ → Type 0
  CanMake n m = (i k : ℕ) → i < n → k < m → g.pre entry (i, (k, tt))

  -- whatever it gives at a place of the run i is that list's entry there
  abbrev pub MakesRun : ℕ → List T → Type 0
  MakesRun i made = (k : ℕ) (x : T) → k < length made → g.post entry (i, (k, tt)) x → x ≡ slice_index_or made k x

  -- and at a place of n runs of m
  abbrev pub Makes : ℕ → ℕ → List T → Type 0
  Makes n m made = (i k : ℕ) (x : T) → i < n → k < m → g.post entry (i, (k, tt)) x → x ≡ slice_index_or made (i * m + k) x
