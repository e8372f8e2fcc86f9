-- The worked job of document 01, byte by byte. That it is read, and some bytes that are no job, stand in proofs/.
use Rattle.std.specs.Prelude.{ℕ, ◌≡◌, refl, List, [], ◌∷◌, ◌++◌, length, replicate, ℤ, pos, negsuc}
use Rattle.definitions.specs.Job.{Parts}

-- 0.0 and 1.0, eight bytes each
abbrev zeros : List ℕ
zeros = replicate 8 0

abbrev one : List ℕ
one = replicate 6 0 ++ 240 ∷ 63 ∷ []

abbrev identity : List ℕ
identity = 1 ∷ 0 ∷ 0 ∷ 0 ∷ 1 ∷ 0 ∷ 0 ∷ 0 ∷ 1 ∷ []

abbrev spaces : List ℕ
spaces = replicate 59 32

abbrev pub worked_bytes : List ℕ
worked_bytes =
    76 ∷ one ++ zeros ++ zeros ++ zeros ++ one ++ zeros ++ zeros ++ zeros ++ one
    ++ 84 ∷ identity ++ zeros ++ zeros ++ zeros
    ++ 67 ∷ 1 ∷ 255 ∷ 0 ∷ 1 ∷ 1 ∷ 0 ∷ 0 ∷ 0 ∷ 1 ∷ []
    ++ 83 ∷ 63 ∷ 0 ∷ 0 ∷ 0 ∷ zeros ++ zeros ++ zeros
    ++ 79 ∷ identity ++ zeros ++ zeros ++ zeros
    ++ 80 ∷ 0 ∷ []
    ++ 71 ∷ identity ++ zeros ++ zeros ++ zeros
    ++ 82 ∷ identity
    ++ 87 ∷ 2 ∷ 0 ∷ 97 ∷ 120 ∷ 44 ∷ 121 ∷ 44 ∷ 122 ∷ spaces
    ++ 78 ∷ 252 ∷ 169 ∷ 241 ∷ 210 ∷ 77 ∷ 98 ∷ 80 ∷ 63 ∷ []
    ++ 90 ∷ []

abbrev identity_rows : List ℤ
identity_rows = pos 1 ∷ pos 0 ∷ pos 0 ∷ pos 0 ∷ pos 1 ∷ pos 0 ∷ pos 0 ∷ pos 0 ∷ pos 1 ∷ []

abbrev origin : List ℕ
origin = 0 ∷ 0 ∷ 0 ∷ []

abbrev pub worked : Parts
worked =
    record {
      lattice = 0x3FF0000000000000 ∷ 0 ∷ 0 ∷ 0 ∷ 0x3FF0000000000000 ∷ 0 ∷ 0 ∷ 0 ∷ 0x3FF0000000000000 ∷ [];
      t = identity_rows;
      shift = origin;
      c = pos 1 ∷ negsuc 0 ∷ pos 0 ∷ pos 1 ∷ pos 1 ∷ pos 0 ∷ pos 0 ∷ pos 0 ∷ pos 1 ∷ [];
      sites = record { element = pos 63; position = origin } ∷ [];
      operations = record { rotation = identity_rows; translation = origin } ∷ [];
      images = 0 ∷ [];
      targets = record { rotation = identity_rows; translation = origin } ∷ [];
      rotations = identity_rows ∷ [];
      candidates = record { multiplicity = 2; letter = 97; text = 120 ∷ 44 ∷ 121 ∷ 44 ∷ 122 ∷ spaces } ∷ [];
      symprec = 0x3F50624DD2F1A9FC;
    }

worked-length : length worked_bytes ≡ 304
worked-length = refl
