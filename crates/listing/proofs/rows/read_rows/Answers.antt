use Rattle.std.proofs.Common.{◌≡◌, ◌+◌, ◌*◌, [], ◌++◌, Some, Err, Ok, length, sym, ap, ◌∙◌, arith}
use Rattle.std.proofs.lemmas.Bool.Decides.{nat_tests}
use Rattle.listing.specs.Cutting.{unread}
use Rattle.listing.specs.Lines.{behind}
use Rattle.listing.specs.Rows.{kept}
use Rattle.listing.proofs.RowSteps.{at_feed, behind_end, behind_err, gains_all, gains_more, rows_end, rows_more, rows_none, rows_over, rows_uncut}
use Rattle.listing.proofs.rows.read_rows.Goals as goal

pub returns-in_default : goal.returns-in_default
returns-in_default c =
    let (feed, front, gained, rest) = c.loop-row.invariant in
    let bs = unread c.loop-row.lines in
    let uncut = at_feed c.loop-row.lines.mark bs _ feed c.in_default.ensures.cut.0 in
    behind_err front (c.loop-row.row + 2) _ _ (rows_uncut (c.args.header.ny * c.args.header.nz) c.loop-row.row c.args.header.nx bs (omega arith) uncut) rest

pub returns-in_default-push_row : goal.returns-in_default-push_row
returns-in_default-push_row c =
    let (feed, front, gained, rest) = c.loop-row.invariant in
    let bs = unread c.loop-row.lines in
    let cut = at_feed c.loop-row.lines.mark bs _ feed c.in-Some.ensures.cut in
    behind_err front (c.loop-row.row + 2) _ _
    (rows_none (c.args.header.ny * c.args.header.nz) c.loop-row.row c.args.header.nx bs c.in-Some.line.now (unread c.ended.new.self) (omega arith) cut c.in_default-push_row.ensures)
    rest

pub loop-row-preserved : goal.loop-row-preserved
loop-row-preserved c =
    let (feed, front, gained, rest) = c.loop-row.invariant in
    let (row, read, more) = c.in-Some-push_row.ensures in
    let bs = unread c.loop-row.lines in
    let cut = at_feed c.loop-row.lines.mark bs _ feed c.in-Some.ensures.cut in (
      c.ended.ensures.mark ∙ feed,
      front ++ row,
      gains_more (Some []) (kept c.loop-row.readings) (kept c.push_row.new.readings) front row gained more,
      sym (rows_more front (front ++ row) (c.args.header.ny * c.args.header.nz) c.loop-row.row c.args.header.nx bs c.in-Some.line.now (unread c.ended.new.self) (omega arith) cut (ap (behind front) read)) ∙ rest,
    )

pub returns-then-not-is_empty : goal.returns-then-not-is_empty
returns-then-not-is_empty c =
    let (feed, front, gained, rest) = c.loop-row.invariant in
    let rows = c.args.header.ny * c.args.header.nz in
    let end : c.loop-row.row ≡ rows = omega arith in
    let more : length (unread c.loop-row.lines) ≡ 0 → ⊥ = λ none. grind (arith, nat_tests, ap length c.rest.ensures, none) in
    let over = rows_over rows c.loop-row.row c.args.header.nx (unread c.loop-row.lines) (omega arith) more in
    behind_err front (rows + 2) _ _ (over ∙ ap (λ k. Err (k + 2)) end) rest

pub returns-in-Some-into_list : goal.returns-in-Some-into_list
returns-in-Some-into_list c =
    let (feed, front, gained, rest) = c.loop-row.invariant in
    let rows = c.args.header.ny * c.args.header.nz in
    let all = rows_end rows c.loop-row.row c.args.header.nx (unread c.loop-row.lines) (omega arith) (search (arith, nat_tests, ap length c.rest.ensures)) in
    behind_end front _ _ all rest ∙ ap Ok (gains_all _ front _ gained c.in-Some-into_list.ensures)

pub returns-in-None : goal.returns-in-None
returns-in-None c =
    let (feed, front, gained, rest) = c.loop-row.invariant in
    let rows = c.args.header.ny * c.args.header.nz in
    let all = rows_end rows c.loop-row.row c.args.header.nx (unread c.loop-row.lines) (omega arith) (search (arith, nat_tests, ap length c.rest.ensures)) in
    (front, behind_end front _ _ all rest)
