-- The code of items, by which they are told apart.
use Rattle.std.specs.Prelude.{ℕ, List, refl}
use Rattle.std.specs.Coded.{Coded, code_by, coded×, coded_ℕ, coded_list}
use Rattle.em_order.specs.declared.item_list.Item.{Item}

abbrev pub item_code : Coded Item
item_code =
    code_by (ℕ × (ℕ × ℕ)) (coded× coded_ℕ (coded× coded_ℕ coded_ℕ)) (λ i. (i.index, (i.queue.0, i.core.0)))
    (λ p. record { index = p.0; queue = record { 0 = p.1.0 }; core = record { 0 = p.1.1 } })
    (λ _. refl)

abbrev pub items_code : Coded (List Item)
items_code = coded_list item_code
