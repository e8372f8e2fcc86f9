-- Each run begins where the one before it ends.
use Prim.Native.Nat.{◌+◌, ◌*◌, ◌≤◌}
use mathlib.Core.Path.{sym, ap, ◌∙◌}
use native.Mathlib.Omega.{arith}
use lib.ListN.{length}
use Rattle.definitions.specs.Job.{float}
use Rattle.definitions.specs.Lent.{position_from}
use Rattle.job.specs.Places.{operations_from, images_from, targets_from, rotations_from, candidates_from, symprec_from}
use Rattle.job.proofs.Words.{word8_is}
use Rattle.job.proofs.JobLists.fill.Goals as goal
use Rattle.job.proofs.JobLists.fill.Goals.{Start}

-- ---- what is read ends within the bytes

sites_room : (s : Start) → 127 + s.args.k.sites * 29 ≤ length s.args.bytes.now
sites_room s = omega (arith, s.requires.0)

operations_room : (s : Start) → operations_from s.args.k + s.args.k.operations * 34 + 10 ≤ length s.args.bytes.now
operations_room s = omega (arith, s.requires.0)

images_room : (s : Start) → images_from s.args.k + s.args.k.images * 2 + 10 ≤ length s.args.bytes.now
images_room s = omega (arith, s.requires.0)

targets_room : (s : Start) → targets_from s.args.k + s.args.k.targets * 34 + 10 ≤ length s.args.bytes.now
targets_room s = omega (arith, s.requires.0)

rotations_room : (s : Start) → rotations_from s.args.k + s.args.k.rotations * 10 + 10 ≤ length s.args.bytes.now
rotations_room s = omega (arith, s.requires.0)

candidates_room_lem : (s : Start) → candidates_from s.args.k + s.args.k.candidates * 68 + 10 ≤ length s.args.bytes.now
candidates_room_lem s = omega (arith, s.requires.0)

symprec_room : (s : Start) → symprec_from s.args.k + 10 ≤ length s.args.bytes.now
symprec_room s = omega (arith, s.requires.0)

pub fill_sites-requires : goal.fill_sites-requires
fill_sites-requires c =
    (sites_room (goal.at.fill_sites-requires c).Start, c.requires.1.elements, c.requires.1.positions)

pub fill_operations-requires : goal.fill_operations-requires
fill_operations-requires c =
    (operations_room (goal.at.fill_operations-requires c).Start, c.requires.1.rotations, c.requires.1.translations)

pub fill_images-requires : goal.fill_images-requires
fill_images-requires c =
    (images_room (goal.at.fill_images-requires c).Start, c.requires.1.images)

pub fill_operations-requires-2 : goal.fill_operations-requires-2
fill_operations-requires-2 c =
    (targets_room (goal.at.fill_operations-requires-2 c).Start, c.requires.1.rotations_of_targets, c.requires.1.translations_of_targets)

pub fill_conventional-requires : goal.fill_conventional-requires
fill_conventional-requires c =
    (rotations_room (goal.at.fill_conventional-requires c).Start, c.requires.1.conventional)

pub fill_candidates-requires : goal.fill_candidates-requires
fill_candidates-requires c =
    (candidates_room_lem (goal.at.fill_candidates-requires c).Start, c.requires.1.multiplicities, c.requires.1.letters)

pub fill_texts-requires : goal.fill_texts-requires
fill_texts-requires c = (candidates_room_lem (goal.at.fill_texts-requires c).Start, c.requires.1.texts)

pub returns-clause-filled : goal.returns-clause-filled
returns-clause-filled c =
    record {
      lattice = c.read-self.ensures;
      t = c.read-self-2.ensures;
      shift = ap position_from c.read-self-3.ensures;
      c = c.read-self-4.ensures;
      elements = c.fill_sites.ensures.0;
      positions = c.fill_sites.ensures.1;
      rotations = c.fill_operations.ensures.0;
      translations = c.fill_operations.ensures.1;
      images = c.fill_images.ensures;
      rotations_of_targets = c.fill_operations-2.ensures.0;
      translations_of_targets = c.fill_operations-2.ensures.1;
      conventional = c.fill_conventional.ensures;
      multiplicities = c.fill_candidates.ensures.0;
      letters = c.fill_candidates.ensures.1;
      texts = c.fill_texts.ensures;
      symprec = c.read-self-5.ensures ∙ ap float (sym (word8_is c.args.bytes.now (symprec_from c.args.k + 1)));
    }
