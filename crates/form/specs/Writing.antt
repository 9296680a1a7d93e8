-- Order form text, written (01, "Order form text"). Assumes nothing: these are definitions.
use Rattle.std.specs.Prelude.{ℕ, List}
use Rattle.order.specs.Reading.{by_order, order_of}
use Rattle.order.specs.Answers.{Writing, refuse, write}
use Rattle.form.specs.Text.{text_of}

-- "Write text: 1, 2, 11": the only text of an order to the front of the output.
unfoldable pub write_of : List ℕ → List ℕ → Writing
write_of ws out = by_order (order_of ws) (λ n. refuse n out) (λ t. write (text_of t) out)
