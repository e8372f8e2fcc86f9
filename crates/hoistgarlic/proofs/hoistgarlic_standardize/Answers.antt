-- `hoistgarlic_standardize`: what the call on bytes promises, told in numbers.
use Rattle.std.proofs.Common.{rules}
use Rattle.hoistgarlic.proofs.hoistgarlic_standardize.Goals as goal

pub returns : goal.returns
returns c =
    let told = c.standardize_bytes-told in
    record {
      standardized = told.result;
      promise = search (rules, told.ensures.standardized);
      number = c.tell_standardized.ensures.0;
      sites = c.tell_standardized.ensures.1;
      orbits = c.tell_standardized.ensures.2;
    }
