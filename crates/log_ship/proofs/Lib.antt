mod ChainLemmas
mod CountLemmas
mod CutLemmas
mod ShipLemmas
mod StartLemmas
mod TextLemmas
