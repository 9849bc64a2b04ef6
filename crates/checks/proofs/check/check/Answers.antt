-- `checks::check::check` meets its contract: what is left to check is the answer as long as nothing has refused, and the first refusal is the answer then. What has
-- passed keeps the sums, places and products of later checks in range. Assumes nothing.
use mathlib.Core.Path.{refl, ◌∙◌}
use Rattle.std.proofs.lemmas.Result.{err_from_is_err_and}
use Rattle.checks.specs.Answers.{no_grid, job_in}
use Rattle.checks.proofs.Order.{limit_low, counts_agreed, few, all_left, past, last, stop}
use Rattle.checks.proofs.InHand.{numbers_fit, high_says, flags_say, many_is, t_below, room_is}
use Rattle.checks.proofs.check.check.Goals as goal

pub returns-in_err-check_nvp : goal.returns-in_err-check_nvp
returns-in_err-check_nvp c = λ grid.
    let a = c.args in let j = job_in a.nvp grid a.set.now in
    let left-1 = all_left j a.have in
    let p = err_from_is_err_and c.from_residual.result c.from_residual.ensures.1 in
    rw (p.1, p.2) (stop left-1 (c.check_nvp.ensures j refl) c.in_err-check_nvp.was)

pub returns-in_err-check_counts : goal.returns-in_err-check_counts
returns-in_err-check_counts c = λ grid.
    let a = c.args in let j = job_in a.nvp grid a.set.now in
    let left-1 = all_left j a.have in
    let left-2 = past left-1 (c.check_nvp.ensures j refl) c.in_ok-check_nvp.was in
    let p = err_from_is_err_and c.from_residual-in_err-check_counts.result c.from_residual-in_err-check_counts.ensures.1 in
    rw (p.1, p.2) (stop left-2 (c.check_counts.ensures a.nvp grid) c.in_err-check_counts.was)

pub count_all-n-requires : goal.count_all-n-requires
count_all-n-requires c =
    let a = c.args in let j = job_in a.nvp no_grid a.set.now in
    let agreed = counts_agreed j (c.check_counts.ensures a.nvp no_grid) c.in_ok-check_counts.was in
    agreed.contours

pub check_high-requires : goal.check_high-requires
check_high-requires c =
    let a = c.args in let j = job_in a.nvp no_grid a.set.now in
    let agreed = counts_agreed j (c.check_counts.ensures a.nvp no_grid) c.in_ok-check_counts.was in
    numbers_fit j agreed c.count_all-n.ensures.is

pub returns-in_err-check_high : goal.returns-in_err-check_high
returns-in_err-check_high c = λ grid.
    let a = c.args in let j = job_in a.nvp grid a.set.now in
    let left-1 = all_left j a.have in
    let left-2 = past left-1 (c.check_nvp.ensures j refl) c.in_ok-check_nvp.was in
    let left-3 = past left-2 (c.check_counts.ensures a.nvp grid) c.in_ok-check_counts.was in
    let p = err_from_is_err_and c.from_residual-in_err-check_high.result c.from_residual-in_err-check_high.ensures.1 in
    rw (p.1, p.2) (stop left-3 (high_says j c.count_all-n.ensures.is c.check_high.ensures) c.in_err-check_high.was)

pub check_flags-requires : goal.check_flags-requires
check_flags-requires c =
    let a = c.args in let j = job_in a.nvp no_grid a.set.now in
    let agreed = counts_agreed j (c.check_counts.ensures a.nvp no_grid) c.in_ok-check_counts.was in
    numbers_fit j agreed c.count_all-n.ensures.is

pub returns-in_err-check_flags : goal.returns-in_err-check_flags
returns-in_err-check_flags c = λ grid.
    let a = c.args in let j = job_in a.nvp grid a.set.now in
    let left-1 = all_left j a.have in
    let left-2 = past left-1 (c.check_nvp.ensures j refl) c.in_ok-check_nvp.was in
    let left-3 = past left-2 (c.check_counts.ensures a.nvp grid) c.in_ok-check_counts.was in
    let left-4 = past left-3 (high_says j c.count_all-n.ensures.is c.check_high.ensures) c.in_ok-check_high.was in
    let p = err_from_is_err_and c.from_residual-in_err-check_flags.result c.from_residual-in_err-check_flags.ensures.1 in
    rw (p.1, p.2) (stop left-4 (flags_say j c.count_all-n.ensures.is c.check_flags.ensures) c.in_err-check_flags.was)

pub count_v-v-requires : goal.count_v-v-requires
count_v-v-requires c =
    let a = c.args in let j = job_in a.nvp no_grid a.set.now in
    let agreed = counts_agreed j (c.check_counts.ensures a.nvp no_grid) c.in_ok-check_counts.was in
    agreed.contours

pub returns-in_err-check_v : goal.returns-in_err-check_v
returns-in_err-check_v c = λ grid.
    let a = c.args in let j = job_in a.nvp grid a.set.now in
    let left-1 = all_left j a.have in
    let left-2 = past left-1 (c.check_nvp.ensures j refl) c.in_ok-check_nvp.was in
    let left-3 = past left-2 (c.check_counts.ensures a.nvp grid) c.in_ok-check_counts.was in
    let left-4 = past left-3 (high_says j c.count_all-n.ensures.is c.check_high.ensures) c.in_ok-check_high.was in
    let left-5 = past left-4 (flags_say j c.count_all-n.ensures.is c.check_flags.ensures) c.in_ok-check_flags.was in
    let p = err_from_is_err_and c.from_residual-in_err-check_v.result c.from_residual-in_err-check_v.ensures.1 in
    rw (p.1, p.2) (stop left-5 (many_is j c.count_v-v.ensures c.check_v.ensures) c.in_err-check_v.was)

pub count_t-requires : goal.count_t-requires
count_t-requires c =
    let a = c.args in let j = job_in a.nvp no_grid a.set.now in
    let agreed = counts_agreed j (c.check_counts.ensures a.nvp no_grid) c.in_ok-check_counts.was in
    agreed.contours

pub check_room-requires : goal.check_room-requires
check_room-requires c =
    let a = c.args in let j = job_in a.nvp no_grid a.set.now in
    record {
      nvp_most = limit_low j (c.check_nvp.ensures j refl) c.in_ok-check_nvp.was;
      v_most = few c.check_v.ensures c.in_ok-check_v.was;
      t_most = t_below j c.count_v-v.ensures c.count_t.ensures;
    }

pub returns : goal.returns
returns c = λ grid.
    let a = c.args in let j = job_in a.nvp grid a.set.now in
    let left-1 = all_left j a.have in
    let left-2 = past left-1 (c.check_nvp.ensures j refl) c.in_ok-check_nvp.was in
    let left-3 = past left-2 (c.check_counts.ensures a.nvp grid) c.in_ok-check_counts.was in
    let left-4 = past left-3 (high_says j c.count_all-n.ensures.is c.check_high.ensures) c.in_ok-check_high.was in
    let left-5 = past left-4 (flags_say j c.count_all-n.ensures.is c.check_flags.ensures) c.in_ok-check_flags.was in
    room_is j c.count_v-v.ensures c.count_t.ensures a.have c.check_room.ensures ∙ last left-5 (many_is j c.count_v-v.ensures c.check_v.ensures) c.in_ok-check_v.was
