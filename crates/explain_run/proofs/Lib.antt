mod DeskLemmas
mod LinesLemmas
mod ListLemmas
mod PushingLemmas
mod ServingLemmas
