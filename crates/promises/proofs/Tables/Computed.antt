-- One name that opens every definition that the tables compute, one that opens those of choosing an image besides, and one those of the desk. Assumes
-- nothing.
use Prim.Native.Nat.{ℕ}
use Rattle.words.specs.Base.{◌and◌, when◌then◌else◌, same_words, keep}
use Rattle.words.specs.Compare.{compare_of, before}
use Rattle.section.specs.Entries.{section_words, entries, span, has, total, add, lower}
use Rattle.section_change.specs.Editing.{fitting}
use Rattle.order.specs.Trees.{count, words, depth, cut, subtrees, below}
use Rattle.figures.specs.Nodes.{sound_node}
use Rattle.order.specs.Reading.{first_trees, later_trees, node_over, read_trees, by_found, only, tree_of, by_order, within_depth, order_of}
use Rattle.order.specs.Parts.{top, is_low, lows, middle, is_middle, middles, same_tree, each_once, low_parts, middle_parts}
use Rattle.order.specs.Answers.{write}
use Rattle.order.specs.Fits.{fits_of}
use Rattle.form.specs.Reading.{is_digit, value, is_code, code_behind, spelt_of, by_line, allowed, siblings, line_of, by_form, read_lines, form_of, children, words_of_lines, read_of}
use Rattle.book.specs.Book.{section_of, body, used, live, encode, lay, entry_in_form, ascending_from, section_in_form, in_form}
use Rattle.book.specs.Decoding.{tops_at, lows_at, middles_at, book_in, formed, decode, by_book, sized, on_book}
use Rattle.book.specs.Taught.{add_each, taught, book_of, teachings_in, same_section, agreeing}
use Rattle.book.specs.Opening.{open_of}
use Rattle.book_judging.specs.Judging.{knows, knows_each, to_fix, least_to_fix, verdict_on, verdict, judge_of}
use Rattle.book_choosing.specs.Rules.{sound_rule, rule_before, rules_from, rules_of, by_rules}
use Rattle.book_choosing.specs.Choosing.{is_one_of, rule_fits, images_for, all_are, one_image, chosen_by, after_verdict, choose_of}
use Rattle.book_choosing.specs.Choices.{rules_words}
use Rattle.book_change.specs.Counts.{within_counts}
use Rattle.book_teaching.specs.Calls.{on_order, teach_tree, teach_of, lower_each, withdrawn, has_each, has_parts, withdraw_tree, withdraw_of}
use Rattle.book_joining.specs.Joining.{joined, join_books, join_of}
use Rattle.book.specs.Checking.{agree_of}
use Rattle.form.specs.Text.{lines_of, level_text, code_text, line_text, spell, text_of}
use Rattle.desk_line.specs.Replies.{last_digits, without_zeros, decimal, field, reply}
use Rattle.desk_input.specs.Sheets.{letter_of, with_byte, input_lines, kind_of, with_line, calls_of, sheet_of, first_line, handed_by, by_first, handed_in}
use Rattle.promises.specs.Heard.{computed, heard}

-- Opens them all.
unfoldable pub computes : ℕ
unfolding ◌and◌ when◌then◌else◌ same_words keep compare_of before count words depth cut subtrees first_trees later_trees sound_node node_over read_trees
    by_found only tree_of by_order within_depth order_of top is_low lows middle is_middle middles same_tree each_once low_parts middle_parts fits_of section_words
    entries span has total add lower fitting section_of body used live encode lay entry_in_form ascending_from section_in_form in_form tops_at lows_at
    middles_at book_in formed decode by_book sized on_book add_each taught book_of teachings_in same_section agreeing open_of on_order within_counts teach_tree
    teach_of lower_each withdrawn has_each has_parts withdraw_tree withdraw_of joined join_books join_of computed heard knows knows_each below to_fix least_to_fix verdict_on verdict judge_of
    write is_digit value is_code code_behind spelt_of by_line allowed siblings line_of by_form read_lines form_of children words_of_lines read_of agree_of
computes = 0

-- Opens those of choosing an image besides: rule lists, and what is chosen by them.
unfoldable pub choosing_computes : ℕ
unfolding computes sound_rule rule_before rules_from rules_of by_rules rules_words is_one_of rule_fits images_for all_are one_image chosen_by after_verdict choose_of
choosing_computes = 0

-- Opens those of the desk besides: what is handed in, the text of an order, and the lines that are printed.
unfoldable pub desk_computes : ℕ
unfolding computes lines_of level_text code_text line_text spell text_of last_digits without_zeros decimal field reply letter_of with_byte input_lines kind_of
    with_line calls_of sheet_of first_line handed_by by_first handed_in
desk_computes = 0
