-- Entry by entry, what `From` gives; and the rows are three of three.
use Rattle.std.proofs.Common.{◌≡◌, List, [], ◌∷◌, refl, ap, ◌∙◌, arith}
use Rattle.std.specs.Prelude.{map}
use Rattle.std.specs.List.{AllZip}
use denote.Param.{param}
use Rattle.math_matrix.specs.Laws.{three_rows_by}
use Rattle.math_matrix.proofs.Shape.{row-length}
use Rattle.math_real.proofs.whole.real.Goals as goal

mapped :
    {A B : Type 0} (f : A → B) (R : A → B → Type 0) → ((x : A) (y : B) → R x y → y ≡ f x) → (xs : List A) (ys : List B) →
    AllZip R xs ys → ys ≡ map f xs
mapped f R is [] [] h = refl
mapped f R is [] (y ∷ ys) h = absurd h
mapped f R is (x ∷ xs) [] h = absurd h
mapped f R is (x ∷ xs) (y ∷ ys) h = λ i. is x y h.0 i ∷ mapped f R is xs ys h.1 i

pub returns : goal.returns
returns g c =
    let m = c.args.m in
    let good = c.well_formed.0.1 in
    let rows = row-length (param 0 g.row.T) m good.0 good.1.1 in
    record {
      entries = λ f z is.
          mapped (map f) _ (mapped f _ is) m c.wider.result c.wider.ensures
          ∙ ap (map (map f)) (three_rows_by z m good.1.0.1 (λ i l. rows i (omega arith)));
    }
