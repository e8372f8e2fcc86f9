-- The worked job of document 01 is read, and bytes that are no job are not.
use Rattle.std.specs.Prelude.{◌≡◌, refl, [], ◌∷◌, ◌++◌, take}
use Rattle.std.proofs.Math.Option.{some}
use Rattle.definitions.specs.Job.{Parts, IsJob}
use Rattle.job_laws.specs.Decode.{decode}
use Rattle.job_laws.proofs.Decode.{decode_sound, not_a_job}
use Rattle.job_laws.specs.Worked.{worked_bytes, worked}

pub worked_decodes : decode worked_bytes ≡ some worked
unfolding decode
worked_decodes = refl

pub worked_job : IsJob worked_bytes worked
worked_job = decode_sound worked_bytes worked worked_decodes tt

pub empty_no_job : (p : Parts) → IsJob [] p → ⊥
unfolding decode
empty_no_job = not_a_job _ refl

pub cut_no_job : (p : Parts) → IsJob (take 303 worked_bytes) p → ⊥
unfolding decode
cut_no_job = not_a_job _ refl

pub longer_no_job : (p : Parts) → IsJob (worked_bytes ++ 0 ∷ []) p → ⊥
unfolding decode
longer_no_job = not_a_job _ refl
