-- `start` leaves what steps 1 and 2 leave (`Started`): each call gives one part of it.
use mathlib.Core.Path.{refl, ap, ◌∙◌}
use native.Mathlib.Omega.{arith}
use lib.IntN.{pos}
use lib.ListN.{length}
use Rattle.lines.specs.Square.{table}
use Rattle.lines.proofs.Squares.{table_at, length_table}
use Rattle.keyed.proofs.Fills.{cheapest_below, none_before, prices_are, prices_small}
use Rattle.quick_steps.proofs.start.Goals as goal

pub set_row_prices-requires : goal.set_row_prices-requires
set_row_prices-requires c =
    let pre = c.requires in
    record {
      most = pre.fills.most;
      costs_square = pre.fills.costs_square;
      row_lines = pre.row_lines;
      below = λ i h. cheapest_below _ _ _ pre.fills.most (pre.rows i h) h (c.fill.ensures.1 i h);
    }

pub star_rows-requires : goal.star_rows-requires
star_rows-requires c =
    let pre = c.requires in
    record {
      most = pre.fills.most;
      costs_square = pre.fills.costs_square;
      mask_square = pre.fills.mask_square;
      prices = c.set_row_prices.ensures ∙ prices_are _ _ _ _ pre.fills.most pre.rows c.fill.ensures.1;
      small = prices_small _ _ _ _ pre.fills.most pre.rows c.fill.ensures.1;
      before = λ i h. none_before _ _ _ pre.fills.most (pre.rows i h) h (c.fill.ensures.1 i h);
    }

pub returns-clause-started : goal.returns-clause-started
returns-clause-started c =
    let pre = c.requires in
    record {
      begun = c.begun.ensures;
      table = c.fill.ensures.0;
      row_prices_are = c.set_row_prices.ensures ∙ prices_are _ _ _ _ pre.fills.most pre.rows c.fill.ensures.1;
      column_prices_are = c.clear_prices.ensures ∙ ap (table (λ j. pos 0)) pre.column_lines;
      star_long = rw c.clear_primes.ensures.star c.star_rows.ensures.long.0;
      owner_long = rw c.clear_primes.ensures.owner c.star_rows.ensures.long.1;
      prime_long = rw (c.clear_primes.ensures.prime, length_table (λ k. c.args.matrix.n) (length c.star_rows.new.self.prime)) c.star_rows.ensures.long.2;
      star_is = rw c.clear_primes.ensures.star c.star_rows.ensures.star;
      owner_is = rw c.clear_primes.ensures.owner c.star_rows.ensures.owner;
      no_prime = λ i hi. rw c.clear_primes.ensures.prime (table_at 0 _ _ i (omega (arith, hi, c.star_rows.ensures.long.2)));
      cheapest_long = omega (arith, c.fill-2.ensures.len, pre.fills.most);
      none_known = λ i hi. c.fill-2.ensures.clones i 0 (omega (arith, hi, pre.fills.most)) refl;
    }
