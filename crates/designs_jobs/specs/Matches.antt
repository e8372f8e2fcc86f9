-- Matches with their places and distances, as the Rust gives them over the stand-in arithmetic. One table, and one
-- proof over it.
-- Made by tools/whole_jobs.py; not written by hand.
use Rattle.std.specs.Prelude.{refl, List, [], ◌∷◌, Some, None}
use Rattle.definitions.specs.Lists.{Each}
use Rattle.definitions.specs.Job.{float}
use Rattle.designs.specs.Evaluate.{Matched, MatchedRight, match_evaluated, matched}

-- 0,0,0 at (0.4, 0, 0), symprec 1.0
abbrev match_0 : Matched
match_0 = record { position = record { x = float 0x3fd999999999999a; y = float 0x0000000000000000; z = float 0x0000000000000000 }; text = 48 ∷ 44 ∷ 48 ∷ 44 ∷ 48 ∷ 32 ∷ 32 ∷ 32 ∷ 32 ∷ 32 ∷ 32 ∷ 32 ∷ 32 ∷ 32 ∷ 32 ∷ 32 ∷ 32 ∷ 32 ∷ 32 ∷ 32 ∷ 32 ∷ 32 ∷ 32 ∷ 32 ∷ 32 ∷ 32 ∷ 32 ∷ 32 ∷ 32 ∷ 32 ∷ 32 ∷ 32 ∷ 32 ∷ 32 ∷ 32 ∷ 32 ∷ 32 ∷ 32 ∷ 32 ∷ 32 ∷ 32 ∷ 32 ∷ 32 ∷ 32 ∷ 32 ∷ 32 ∷ 32 ∷ 32 ∷ 32 ∷ 32 ∷ 32 ∷ 32 ∷ 32 ∷ 32 ∷ 32 ∷ 32 ∷ 32 ∷ 32 ∷ 32 ∷ 32 ∷ 32 ∷ 32 ∷ 32 ∷ 32 ∷ []; symprec = float 0x3ff0000000000000; match = Some (record { place = 4; distance = float 0x3fe3333333333333 }) }

is_0 : MatchedRight match_0
unfolding match_evaluated
is_0 = matched match_0 refl

-- 0,0,0 at (0.4, 0, 0), symprec 0.5
abbrev match_1 : Matched
match_1 = record { position = record { x = float 0x3fd999999999999a; y = float 0x0000000000000000; z = float 0x0000000000000000 }; text = 48 ∷ 44 ∷ 48 ∷ 44 ∷ 48 ∷ 32 ∷ 32 ∷ 32 ∷ 32 ∷ 32 ∷ 32 ∷ 32 ∷ 32 ∷ 32 ∷ 32 ∷ 32 ∷ 32 ∷ 32 ∷ 32 ∷ 32 ∷ 32 ∷ 32 ∷ 32 ∷ 32 ∷ 32 ∷ 32 ∷ 32 ∷ 32 ∷ 32 ∷ 32 ∷ 32 ∷ 32 ∷ 32 ∷ 32 ∷ 32 ∷ 32 ∷ 32 ∷ 32 ∷ 32 ∷ 32 ∷ 32 ∷ 32 ∷ 32 ∷ 32 ∷ 32 ∷ 32 ∷ 32 ∷ 32 ∷ 32 ∷ 32 ∷ 32 ∷ 32 ∷ 32 ∷ 32 ∷ 32 ∷ 32 ∷ 32 ∷ 32 ∷ 32 ∷ 32 ∷ 32 ∷ 32 ∷ 32 ∷ 32 ∷ []; symprec = float 0x3fe0000000000000; match = Some (record { place = 13; distance = float 0x3fd999999999999a }) }

is_1 : MatchedRight match_1
unfolding match_evaluated
is_1 = matched match_1 refl

-- 0,0,0 at (0.25, 0, 0), symprec 0.25
abbrev match_2 : Matched
match_2 = record { position = record { x = float 0x3fd0000000000000; y = float 0x0000000000000000; z = float 0x0000000000000000 }; text = 48 ∷ 44 ∷ 48 ∷ 44 ∷ 48 ∷ 32 ∷ 32 ∷ 32 ∷ 32 ∷ 32 ∷ 32 ∷ 32 ∷ 32 ∷ 32 ∷ 32 ∷ 32 ∷ 32 ∷ 32 ∷ 32 ∷ 32 ∷ 32 ∷ 32 ∷ 32 ∷ 32 ∷ 32 ∷ 32 ∷ 32 ∷ 32 ∷ 32 ∷ 32 ∷ 32 ∷ 32 ∷ 32 ∷ 32 ∷ 32 ∷ 32 ∷ 32 ∷ 32 ∷ 32 ∷ 32 ∷ 32 ∷ 32 ∷ 32 ∷ 32 ∷ 32 ∷ 32 ∷ 32 ∷ 32 ∷ 32 ∷ 32 ∷ 32 ∷ 32 ∷ 32 ∷ 32 ∷ 32 ∷ 32 ∷ 32 ∷ 32 ∷ 32 ∷ 32 ∷ 32 ∷ 32 ∷ 32 ∷ 32 ∷ []; symprec = float 0x3fd0000000000000; match = None }

is_2 : MatchedRight match_2
unfolding match_evaluated
is_2 = matched match_2 refl

-- 0,0,0 at (0, 0, 0), symprec 0.001
abbrev match_3 : Matched
match_3 = record { position = record { x = float 0x0000000000000000; y = float 0x0000000000000000; z = float 0x0000000000000000 }; text = 48 ∷ 44 ∷ 48 ∷ 44 ∷ 48 ∷ 32 ∷ 32 ∷ 32 ∷ 32 ∷ 32 ∷ 32 ∷ 32 ∷ 32 ∷ 32 ∷ 32 ∷ 32 ∷ 32 ∷ 32 ∷ 32 ∷ 32 ∷ 32 ∷ 32 ∷ 32 ∷ 32 ∷ 32 ∷ 32 ∷ 32 ∷ 32 ∷ 32 ∷ 32 ∷ 32 ∷ 32 ∷ 32 ∷ 32 ∷ 32 ∷ 32 ∷ 32 ∷ 32 ∷ 32 ∷ 32 ∷ 32 ∷ 32 ∷ 32 ∷ 32 ∷ 32 ∷ 32 ∷ 32 ∷ 32 ∷ 32 ∷ 32 ∷ 32 ∷ 32 ∷ 32 ∷ 32 ∷ 32 ∷ 32 ∷ 32 ∷ 32 ∷ 32 ∷ 32 ∷ 32 ∷ 32 ∷ 32 ∷ 32 ∷ []; symprec = float 0x3f50624dd2f1a9fc; match = Some (record { place = 13; distance = float 0x0000000000000000 }) }

is_3 : MatchedRight match_3
unfolding match_evaluated
is_3 = matched match_3 refl

-- -1/2,0,0 at (1.5, 0, 0), symprec 0.001
abbrev match_4 : Matched
match_4 = record { position = record { x = float 0x3fe0000000000000; y = float 0x0000000000000000; z = float 0x0000000000000000 }; text = 45 ∷ 49 ∷ 47 ∷ 50 ∷ 44 ∷ 48 ∷ 44 ∷ 48 ∷ 32 ∷ 32 ∷ 32 ∷ 32 ∷ 32 ∷ 32 ∷ 32 ∷ 32 ∷ 32 ∷ 32 ∷ 32 ∷ 32 ∷ 32 ∷ 32 ∷ 32 ∷ 32 ∷ 32 ∷ 32 ∷ 32 ∷ 32 ∷ 32 ∷ 32 ∷ 32 ∷ 32 ∷ 32 ∷ 32 ∷ 32 ∷ 32 ∷ 32 ∷ 32 ∷ 32 ∷ 32 ∷ 32 ∷ 32 ∷ 32 ∷ 32 ∷ 32 ∷ 32 ∷ 32 ∷ 32 ∷ 32 ∷ 32 ∷ 32 ∷ 32 ∷ 32 ∷ 32 ∷ 32 ∷ 32 ∷ 32 ∷ 32 ∷ 32 ∷ 32 ∷ 32 ∷ 32 ∷ 32 ∷ 32 ∷ []; symprec = float 0x3f50624dd2f1a9fc; match = Some (record { place = 4; distance = float 0x0000000000000000 }) }

is_4 : MatchedRight match_4
unfolding match_evaluated
is_4 = matched match_4 refl

-- x,x,0 at (0.3, 0.3, 0), symprec 0.001
abbrev match_5 : Matched
match_5 = record { position = record { x = float 0x3fd3333333333333; y = float 0x3fd3333333333333; z = float 0x0000000000000000 }; text = 120 ∷ 44 ∷ 120 ∷ 44 ∷ 48 ∷ 32 ∷ 32 ∷ 32 ∷ 32 ∷ 32 ∷ 32 ∷ 32 ∷ 32 ∷ 32 ∷ 32 ∷ 32 ∷ 32 ∷ 32 ∷ 32 ∷ 32 ∷ 32 ∷ 32 ∷ 32 ∷ 32 ∷ 32 ∷ 32 ∷ 32 ∷ 32 ∷ 32 ∷ 32 ∷ 32 ∷ 32 ∷ 32 ∷ 32 ∷ 32 ∷ 32 ∷ 32 ∷ 32 ∷ 32 ∷ 32 ∷ 32 ∷ 32 ∷ 32 ∷ 32 ∷ 32 ∷ 32 ∷ 32 ∷ 32 ∷ 32 ∷ 32 ∷ 32 ∷ 32 ∷ 32 ∷ 32 ∷ 32 ∷ 32 ∷ 32 ∷ 32 ∷ 32 ∷ 32 ∷ 32 ∷ 32 ∷ 32 ∷ 32 ∷ []; symprec = float 0x3f50624dd2f1a9fc; match = Some (record { place = 1; distance = float 0x0000000000000000 }) }

is_5 : MatchedRight match_5
unfolding match_evaluated
is_5 = matched match_5 refl

-- x,-x,0 at (0.3, 1.7, 0), symprec 0.001
abbrev match_6 : Matched
match_6 = record { position = record { x = float 0x3fd3333333333333; y = float 0x3fe6666666666666; z = float 0x0000000000000000 }; text = 120 ∷ 44 ∷ 45 ∷ 120 ∷ 44 ∷ 48 ∷ 32 ∷ 32 ∷ 32 ∷ 32 ∷ 32 ∷ 32 ∷ 32 ∷ 32 ∷ 32 ∷ 32 ∷ 32 ∷ 32 ∷ 32 ∷ 32 ∷ 32 ∷ 32 ∷ 32 ∷ 32 ∷ 32 ∷ 32 ∷ 32 ∷ 32 ∷ 32 ∷ 32 ∷ 32 ∷ 32 ∷ 32 ∷ 32 ∷ 32 ∷ 32 ∷ 32 ∷ 32 ∷ 32 ∷ 32 ∷ 32 ∷ 32 ∷ 32 ∷ 32 ∷ 32 ∷ 32 ∷ 32 ∷ 32 ∷ 32 ∷ 32 ∷ 32 ∷ 32 ∷ 32 ∷ 32 ∷ 32 ∷ 32 ∷ 32 ∷ 32 ∷ 32 ∷ 32 ∷ 32 ∷ 32 ∷ 32 ∷ 32 ∷ []; symprec = float 0x3f50624dd2f1a9fc; match = Some (record { place = 4; distance = float 0x0000000000000000 }) }

is_6 : MatchedRight match_6
unfolding match_evaluated
is_6 = matched match_6 refl

-- x,2x,1/4 at (0.25, 0.5, 0.75), symprec 0.001
abbrev match_7 : Matched
match_7 = record { position = record { x = float 0x3fd0000000000000; y = float 0x3fe0000000000000; z = float 0x3fe8000000000000 }; text = 120 ∷ 44 ∷ 50 ∷ 120 ∷ 44 ∷ 49 ∷ 47 ∷ 52 ∷ 32 ∷ 32 ∷ 32 ∷ 32 ∷ 32 ∷ 32 ∷ 32 ∷ 32 ∷ 32 ∷ 32 ∷ 32 ∷ 32 ∷ 32 ∷ 32 ∷ 32 ∷ 32 ∷ 32 ∷ 32 ∷ 32 ∷ 32 ∷ 32 ∷ 32 ∷ 32 ∷ 32 ∷ 32 ∷ 32 ∷ 32 ∷ 32 ∷ 32 ∷ 32 ∷ 32 ∷ 32 ∷ 32 ∷ 32 ∷ 32 ∷ 32 ∷ 32 ∷ 32 ∷ 32 ∷ 32 ∷ 32 ∷ 32 ∷ 32 ∷ 32 ∷ 32 ∷ 32 ∷ 32 ∷ 32 ∷ 32 ∷ 32 ∷ 32 ∷ 32 ∷ 32 ∷ 32 ∷ 32 ∷ 32 ∷ []; symprec = float 0x3f50624dd2f1a9fc; match = None }

is_7 : MatchedRight match_7
unfolding match_evaluated
is_7 = matched match_7 refl

-- x,y,z at (0.1, 0.2, 0.3), symprec 0.001
abbrev match_8 : Matched
match_8 = record { position = record { x = float 0x3fb999999999999a; y = float 0x3fc999999999999a; z = float 0x3fd3333333333333 }; text = 120 ∷ 44 ∷ 121 ∷ 44 ∷ 122 ∷ 32 ∷ 32 ∷ 32 ∷ 32 ∷ 32 ∷ 32 ∷ 32 ∷ 32 ∷ 32 ∷ 32 ∷ 32 ∷ 32 ∷ 32 ∷ 32 ∷ 32 ∷ 32 ∷ 32 ∷ 32 ∷ 32 ∷ 32 ∷ 32 ∷ 32 ∷ 32 ∷ 32 ∷ 32 ∷ 32 ∷ 32 ∷ 32 ∷ 32 ∷ 32 ∷ 32 ∷ 32 ∷ 32 ∷ 32 ∷ 32 ∷ 32 ∷ 32 ∷ 32 ∷ 32 ∷ 32 ∷ 32 ∷ 32 ∷ 32 ∷ 32 ∷ 32 ∷ 32 ∷ 32 ∷ 32 ∷ 32 ∷ 32 ∷ 32 ∷ 32 ∷ 32 ∷ 32 ∷ 32 ∷ 32 ∷ 32 ∷ 32 ∷ 32 ∷ []; symprec = float 0x3f50624dd2f1a9fc; match = Some (record { place = 0; distance = float 0x0000000000000000 }) }

is_8 : MatchedRight match_8
unfolding match_evaluated
is_8 = matched match_8 refl

-- 0,0,0 at (0.1, 0.2, 0.3), symprec 0.001
abbrev match_9 : Matched
match_9 = record { position = record { x = float 0x3fb999999999999a; y = float 0x3fc999999999999a; z = float 0x3fd3333333333333 }; text = 48 ∷ 44 ∷ 48 ∷ 44 ∷ 48 ∷ 32 ∷ 32 ∷ 32 ∷ 32 ∷ 32 ∷ 32 ∷ 32 ∷ 32 ∷ 32 ∷ 32 ∷ 32 ∷ 32 ∷ 32 ∷ 32 ∷ 32 ∷ 32 ∷ 32 ∷ 32 ∷ 32 ∷ 32 ∷ 32 ∷ 32 ∷ 32 ∷ 32 ∷ 32 ∷ 32 ∷ 32 ∷ 32 ∷ 32 ∷ 32 ∷ 32 ∷ 32 ∷ 32 ∷ 32 ∷ 32 ∷ 32 ∷ 32 ∷ 32 ∷ 32 ∷ 32 ∷ 32 ∷ 32 ∷ 32 ∷ 32 ∷ 32 ∷ 32 ∷ 32 ∷ 32 ∷ 32 ∷ 32 ∷ 32 ∷ 32 ∷ 32 ∷ 32 ∷ 32 ∷ 32 ∷ 32 ∷ 32 ∷ 32 ∷ []; symprec = float 0x3f50624dd2f1a9fc; match = None }

is_9 : MatchedRight match_9
unfolding match_evaluated
is_9 = matched match_9 refl

-- x,0,0 at (-0.0, 0, 0), symprec 5e-324
abbrev match_10 : Matched
match_10 = record { position = record { x = float 0x0000000000000000; y = float 0x0000000000000000; z = float 0x0000000000000000 }; text = 120 ∷ 44 ∷ 48 ∷ 44 ∷ 48 ∷ 32 ∷ 32 ∷ 32 ∷ 32 ∷ 32 ∷ 32 ∷ 32 ∷ 32 ∷ 32 ∷ 32 ∷ 32 ∷ 32 ∷ 32 ∷ 32 ∷ 32 ∷ 32 ∷ 32 ∷ 32 ∷ 32 ∷ 32 ∷ 32 ∷ 32 ∷ 32 ∷ 32 ∷ 32 ∷ 32 ∷ 32 ∷ 32 ∷ 32 ∷ 32 ∷ 32 ∷ 32 ∷ 32 ∷ 32 ∷ 32 ∷ 32 ∷ 32 ∷ 32 ∷ 32 ∷ 32 ∷ 32 ∷ 32 ∷ 32 ∷ 32 ∷ 32 ∷ 32 ∷ 32 ∷ 32 ∷ 32 ∷ 32 ∷ 32 ∷ 32 ∷ 32 ∷ 32 ∷ 32 ∷ 32 ∷ 32 ∷ 32 ∷ 32 ∷ []; symprec = float 0x0000000000000001; match = Some (record { place = 4; distance = float 0x0000000000000000 }) }

is_10 : MatchedRight match_10
unfolding match_evaluated
is_10 = matched match_10 refl

-- x,x,x at (0.2, 0, 0), symprec 0.2
abbrev match_11 : Matched
match_11 = record { position = record { x = float 0x3fc999999999999a; y = float 0x0000000000000000; z = float 0x0000000000000000 }; text = 120 ∷ 44 ∷ 120 ∷ 44 ∷ 120 ∷ 32 ∷ 32 ∷ 32 ∷ 32 ∷ 32 ∷ 32 ∷ 32 ∷ 32 ∷ 32 ∷ 32 ∷ 32 ∷ 32 ∷ 32 ∷ 32 ∷ 32 ∷ 32 ∷ 32 ∷ 32 ∷ 32 ∷ 32 ∷ 32 ∷ 32 ∷ 32 ∷ 32 ∷ 32 ∷ 32 ∷ 32 ∷ 32 ∷ 32 ∷ 32 ∷ 32 ∷ 32 ∷ 32 ∷ 32 ∷ 32 ∷ 32 ∷ 32 ∷ 32 ∷ 32 ∷ 32 ∷ 32 ∷ 32 ∷ 32 ∷ 32 ∷ 32 ∷ 32 ∷ 32 ∷ 32 ∷ 32 ∷ 32 ∷ 32 ∷ 32 ∷ 32 ∷ 32 ∷ 32 ∷ 32 ∷ 32 ∷ 32 ∷ 32 ∷ []; symprec = float 0x3fc999999999999a; match = None }

is_11 : MatchedRight match_11
unfolding match_evaluated
is_11 = matched match_11 refl

unfoldable pub matches : List Matched
matches = match_0 ∷ match_1 ∷ match_2 ∷ match_3 ∷ match_4 ∷ match_5 ∷ match_6 ∷ match_7 ∷ match_8 ∷ match_9 ∷ match_10 ∷ match_11 ∷ []

pub matches_right : Each MatchedRight matches
unfolding Each matches
matches_right = (is_0, (is_1, (is_2, (is_3, (is_4, (is_5, (is_6, (is_7, (is_8, (is_9, (is_10, (is_11, tt))))))))))))
